-- The command line: which words are taken, and what they ask for.
use Rattle.std.specs.Prelude.{ℕ, ◌-◌, ◌^◌, Bool, true, false, List, [], ◌∷◌, ◌++◌, not, map, codes, bytes_eq}
use Rattle.std.specs.Prelude.{Option, Some, None, option_map, option_and_then, if◌then◌else◌, string_bytes}
use Rattle.std.specs.Prelude.{String}
use Rattle.std.specs.Global.{Global}
use Rattle.std.specs.Str.Parse.{digits_value, without_leading_plus}
use Rattle.clap.specs.Words.{App, Kinds, Row, Rule, fault_of, first_of, new_app, new_rule, subcommand_of, with_rule}
use Rattle.clap.specs.Words.{with_subcommand}
use Rattle.clap.specs.Simple.{on_top}
use Rattle.clap.specs.ValueTests.{is_unsigned_in}
use Rattle.clap.specs.declared.builder.action.ArgAction.TheVariants.{SetTrue}
use Rattle.clap.specs.declared.builder.value_parser.ValueParser.TheVariants as vp
use Rattle.spec_decoder.specs.declared.form.Form.{Form}
use Rattle.spec_decoder.specs.declared.form.Form.TheVariants as form
use Rattle.decoder.specs.declared.options.Options.{Options}
use Rattle.command_line.specs.declared.request.Request.{Request}
use Rattle.command_line.specs.declared.request.Request.TheVariants.{Decode, Make}
use Rattle.command_line.specs.declared.request.MakeOptions.{MakeOptions}

-- the option of a name whose value is a whole number from least to most
abbrev pub number_rule : List ℕ → ℕ → ℕ → Rule
number_rule name least most = record (new_rule name) { long = Some name; parser = Some (vp.Unsigned least most) }

-- one that has to be given
abbrev pub required_rule : List ℕ → ℕ → ℕ → Rule
required_rule name least most = record (number_rule name least most) { required = true }

-- the option of a name that has no value
abbrev pub flag_rule : List ℕ → Rule
flag_rule name = record (new_rule name) { long = Some name; action = Some SetTrue }

-- a command that decodes, by its name, and its options
unfoldable pub decoding_command : List ℕ → App
decoding_command name =
    with_rule
    (with_rule
    (with_rule (new_app name) (number_rule (codes "workers") 1 64))
    (number_rule (codes "ahead") 1 16))
    (flag_rule (codes "no-hash"))

-- the command make and its options, a seed of 64 bits among them
unfoldable pub make_command : App
make_command =
    with_rule
    (with_rule
    (with_rule (new_app (codes "make")) (required_rule (codes "seed") 0 (2 ^ 64 - 1)))
    (required_rule (codes "pictures") 1 1000))
    (flag_rule (codes "summary"))

-- a command line and a command more that decodes, by its name
unfoldable pub with_decoding : App → List ℕ → App
with_decoding program name = with_subcommand program (decoding_command name).top

-- the program's command line: words with no program's name before them, of which the first is a command
unfoldable pub program_command : App
program_command =
    with_subcommand
    (with_decoding
    (with_decoding
    (with_decoding
    (on_top (λ s. record s { no_binary_name = true; subcommand_required = true }) (new_app (codes "hevcdec")))
    (codes "decode"))
    (codes "hash"))
    (codes "list"))
    make_command.top

-- the number from least to most that clap reads from a text: decimal digits behind at most one plus
abbrev pub number_in : ℕ → ℕ → List ℕ → Option ℕ
number_in least most text =
    if is_unsigned_in least most text then Some (digits_value 10 (without_leading_plus text)) else None

-- what the option of a number from 1 on says: 4 where it isn't given
abbrev pub number_given : ℕ → Option (List ℕ) → Option ℕ
number_given most None = Some 4
number_given most (Some text) = number_in 1 most text

-- whether a flag is given
abbrev pub is_set : Option (List ℕ) → Bool
is_set None = false
is_set (Some text) = bytes_eq text (codes "true")

-- what a command that decodes writes of each picture, by its name
abbrev pub form_of : List ℕ → Form
form_of name =
    if bytes_eq name (codes "hash") then form.Hash
    else if bytes_eq name (codes "list") then form.List
    else form.I420

-- what the matches of a command that decodes ask for, where this is written of each picture
abbrev pub options_of : Form → List Row → Option Options
options_of form rows =
    option_and_then (λ workers. option_and_then (λ ahead. Some (record {
      workers = workers;
      ahead = ahead;
      hash = not (is_set (first_of (codes "no-hash") rows));
      form = form;
    })) (number_given 16 (first_of (codes "ahead") rows))) (number_given 64 (first_of (codes "workers") rows))

-- what the matches of make ask for: both numbers are given there
abbrev pub making_of : List Row → Option MakeOptions
making_of rows =
    option_and_then (λ seed. option_and_then (λ pictures. Some (record {
      seed = seed;
      pictures = pictures;
      summary = is_set (first_of (codes "summary") rows);
    }))
    (option_and_then (number_in 1 1000) (first_of (codes "pictures") rows)))
    (option_and_then (number_in 0 (2 ^ 64 - 1)) (first_of (codes "seed") rows))

-- what a command and its matches ask for
abbrev pub request_of : List ℕ × List Row → Option Request
request_of p =
    if bytes_eq p.0 (codes "make") then option_map Make (making_of p.1)
    else option_map Decode (options_of (form_of p.0) p.1)

-- why the words are refused before their numbers are looked at; nothing where they aren't
unfoldable pub faults_of : List (List ℕ) → Kinds
faults_of words = fault_of program_command words

-- the command that the words name, and its matches
unfoldable pub matches_of : List (List ℕ) → Option (List ℕ × List Row)
matches_of words = subcommand_of program_command words

abbrev pub unless_refused : Kinds → Option Request → Option Request
unless_refused [] request = request
unless_refused (kind ∷ kinds) request = None

-- what the words ask for; nothing where they are a faulty command line
abbrev pub words_taken : List (String Global) → Option Request
words_taken words =
    unless_refused (faults_of (map string_bytes words))
    (option_and_then request_of (matches_of (map string_bytes words)))

-- the line that a faulty command line is answered by
abbrev pub usage_line : List ℕ
usage_line = codes "usage: hevcdec decode|hash|list|make [options]" ++ 10 ∷ []
