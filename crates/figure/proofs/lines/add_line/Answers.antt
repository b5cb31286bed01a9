use Rattle.std.proofs.Common.{◌≡◌, true, false, eqb, vec_items, sym, refl, ◌∙◌, subst}
use Rattle.std.specs.List.{IsAnyAnswer}
use Rattle.figure.proofs.Lists.{added_new, added_again}
use Rattle.figure.proofs.lines.add_line.Goals as goal

pub returns-in_ok-push : goal.returns-in_ok-push
returns-in_ok-push c =
    let cases = subst (λ xs. IsAnyAnswer (λ y t. eqb y c.args.line ≡ t) xs false) c.deref.ensures.value c.if-not-contains.ensures.cases in
    c.in_ok-push.ensures.items ∙ sym (added_new (vec_items c.args.lines.now) c.args.line false cases refl)

pub returns-else-not-contains : goal.returns-else-not-contains
returns-else-not-contains c =
    let cases = subst (λ xs. IsAnyAnswer (λ y t. eqb y c.args.line ≡ t) xs true) c.deref.ensures.value c.if-not-contains.ensures.cases in
    sym (added_again (vec_items c.args.lines.now) c.args.line true cases refl)
