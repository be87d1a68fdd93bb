use Rattle.std.specs.Prelude.{map, string_bytes}
use Rattle.command_line.proofs.WordsLaws.{taken, refused}
use Rattle.command_line.proofs.words.parse_words.Goals as goal

pub returns-in-Ok-clause-taken : goal.returns-in-Ok-clause-taken
returns-in-Ok-clause-taken c =
    let law =
    taken _ (map string_bytes c.args.words.now) c.in-Ok.matches c.in_ok-command.ensures c.in-Ok.ensures.kinds
    c.in-Ok.ensures.matches in
    rw law c.request_or_usage.ensures.taken

pub returns-in-Ok-clause-refused : goal.returns-in-Ok-clause-refused
returns-in-Ok-clause-refused c =
    let law =
    taken _ (map string_bytes c.args.words.now) c.in-Ok.matches c.in_ok-command.ensures c.in-Ok.ensures.kinds
    c.in-Ok.ensures.matches in
    rw law c.request_or_usage.ensures.refused

pub returns-in-Err-clause-refused : goal.returns-in-Err-clause-refused
returns-in-Err-clause-refused c = λ e.
    refused _ (map string_bytes c.args.words.now) c.in-Err.error _ c.in_ok-command.ensures c.in-Err.ensures.kinds
    (c.cause_of.ensures.usage (cc (e)))
