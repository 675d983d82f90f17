use Rattle.std.proofs.Common.{[], ◌∷◌}
use Rattle.std.proofs.lemmas.List.{drop-append-le}
use Rattle.script.proofs.Lexing.{all_grown}
use Rattle.script.proofs.tokens.Lexer.keep.Goals as goal

pub returns : goal.returns
returns c =
    let l = c.args.self.now in
    rw (c.in_ok-push.ensures.items, all_grown l.text.items (c.args.byte ∷ []) l.tokens.items l.spans_within, drop-append-le l.start l.text.items (c.args.byte ∷ []) l.start_within)
