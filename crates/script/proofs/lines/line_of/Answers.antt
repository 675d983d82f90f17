use Rattle.std.proofs.Common.{map, vec_items, Some, refl, ap, ◌∙◌}
use Rattle.std.proofs.lemmas.Option.{MatchOption-at_some}
use Rattle.std.proofs.lemmas.Result.{err_from_is_err_and}
use Rattle.script.specs.declared.lines.Keyword.TheVariants as keyword
use Rattle.script.specs.Lines.{Says, argument, name_in}
use Rattle.script.proofs.Refusing.{lacks}
use Rattle.script.proofs.Heading.{no_keyword, arguments-found}
use Rattle.script.proofs.lines.line_of.Goals as goal

pub returns-in_err-ok_or : goal.returns-in_err-ok_or
returns-in_err-ok_or c =
    let p = err_from_is_err_and c.from_residual.result c.from_residual.ensures.1 in
    rw (p.1, p.2, ← c.deref.ensures.value, ← c.deref-2.ensures.value) (lacks _ _ _ _ c.in_err-ok_or.ensures.value (no_keyword _ _ c.in-Some.token.now c.in-Some.rest.now c.in-Some.ensures.cases.0) c.keyword_of.ensures)

pub returns : goal.returns
returns c =
    let says = MatchOption-at_some _ (Says c.deref-2.result.now c.in-Some.token.now) keyword.Arguments (c.in_ok-ok_or.ensures.ok_part ∙ ap Some c.in-Arguments.is) c.keyword_of.ensures in
    rw (← c.deref.ensures.value, c.in-Some.ensures.cases.0)
    (arguments-found _ _ _ (vec_items c.in_ok-name-in-Arguments.written) _ (rw (← c.deref-2.ensures.value) says) c.in_ok-name-in-Arguments.ensures (c.in_ok-args-in-Arguments.ensures ∙ ap (map argument) c.deref-in-Arguments.ensures.value) (c.in_ok-names-in-Arguments.ensures ∙ ap (map name_in) c.deref-in-Arguments-2.ensures.value) refl)
