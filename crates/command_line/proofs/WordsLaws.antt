-- From what clap answers to which words are taken.
use Rattle.std.proofs.Common.{◌≡◌, ◌≢◌, true, List, [], ◌∷◌, ℕ, Option, None, option_and_then, refl, sym}
use Rattle.std.proofs.Common.{ap, ap₂, subst, ◌∙◌, inl, inr}
use Rattle.clap.specs.Words.{App, HasKind, HasMatchesOf, Kinds, fault_of, is_simple, is_simple_and_free, kind_of}
use Rattle.clap.specs.Words.{subcommand_of, subcommand_rows_of}
use Rattle.clap.specs.declared.error.Error.{Error}
use Rattle.clap.specs.declared.error.kind.ErrorKind.TheVariants as kind
use Rattle.clap.specs.declared.parser.matches.ArgMatches.{ArgMatches}
use Rattle.clap.proofs.OnLiterals.{clap_on_literals}
use Rattle.command_line.specs.declared.request.Request.{Request}
use Rattle.command_line.specs.Words.{program_command, decoding_command, make_command, faults_of, matches_of}
use Rattle.command_line.specs.Words.{request_of}
use Rattle.command_line.specs.Words.{unless_refused, with_decoding}

is_exact : is_simple_and_free program_command ≡ true
unfolding program_command with_decoding decoding_command make_command clap_on_literals
is_exact = refl

has_exact_matches : is_simple program_command ≡ true
unfolding program_command with_decoding decoding_command make_command clap_on_literals
has_exact_matches = refl

-- words that clap takes
pub taken : (a : App) (words : List (List ℕ)) (m : ArgMatches) → a ≡ program_command
    → (is_simple_and_free a ≡ true → fault_of a words ≡ []) → HasMatchesOf a words m
    → unless_refused (faults_of words) (option_and_then request_of (matches_of words))
    ≡ option_and_then request_of (subcommand_rows_of m)
unfolding faults_of matches_of
taken a words m same kinds rows =
    let none : fault_of program_command words ≡ [] =
    ap (λ (x : App). fault_of x words) (sym same) ∙ kinds (ap is_simple_and_free same ∙ is_exact) in
    let found =
    ap (λ (x : App). subcommand_of x words) (sym same) ∙ sym (rows (ap is_simple same ∙ has_exact_matches)).1 in
    ap₂ (λ k r. unless_refused k (option_and_then request_of r)) none found

none_taken : (kinds : Kinds) (e : Error) (request : Option Request) → HasKind kinds e → kind_of e ≢ kind.OutOfMemory
    → unless_refused kinds request ≡ None
none_taken [] e request (inl memory) other = absurd (other memory)
none_taken [] e request (inr among) other = absurd among
none_taken (k ∷ ks) e request has other = refl

-- words that clap refuses for another cause than memory
pub refused : (a : App) (words : List (List ℕ)) (e : Error) (request : Option Request) → a ≡ program_command
    → (is_simple_and_free a ≡ true → HasKind (fault_of a words) e) → kind_of e ≢ kind.OutOfMemory
    → unless_refused (faults_of words) request ≡ None
unfolding faults_of
refused a words e request same kinds other =
    none_taken (fault_of program_command words) e request
    (subst (λ (x : App). HasKind (fault_of x words) e) same (kinds (ap is_simple_and_free same ∙ is_exact))) other
