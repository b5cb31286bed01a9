use Rattle.std.proofs.Common.{◌≡◌, [], ◌∷◌, ◌++◌, length, set, replicate, sym, refl, ap, ap₂, ◌∙◌, rules, length-append}
use Rattle.std.proofs.lemmas.List.{replicate_more}
use Rattle.std.proofs.lemmas.Fn.{chained_keeps}
use Rattle.settle.proofs.begin.Goals as goal

pub returns : goal.returns
returns g c =
    let filled = chained_keeps _ (λ xs f. (xs ≡ replicate (length xs) c.args.nothing) × (f.0.now ≡ c.args.nothing)) (λ xs q x v j s.
    let e : (x ≡ q.0.now) × (v.0.now ≡ q.0.now) = search rules in (
      ap₂ (λ ys y. ys ++ y ∷ []) j.0 (e.0 ∙ j.1) ∙ replicate_more (length xs) c.args.nothing ∙ ap (λ n. replicate n c.args.nothing) (sym (length-append xs (x ∷ []))),
      e.1 ∙ j.1,
    )) c.fill_with.new.self _ _ (refl, refl) c.fill_with.ensures.ran.1 in
    ap (λ xs. set xs c.args.header c.args.entry) (filled.0 ∙ ap (λ n. replicate n c.args.nothing) c.fill_with.ensures.len)
