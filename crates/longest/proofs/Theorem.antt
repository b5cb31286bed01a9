-- The search finds the greatest charge: to each block, and to any block.
use Rattle.std.proofs.Common.{◌≡◌, ℕ, zero, suc, ◌<◌, ◌⊎◌, List, [], ◌∷◌, length, sym, refl, ◌∙◌, subst, inl, inr, le_of_suc-le-suc, not-suc-le-zero, arith}
use Rattle.records.specs.Contents.{Contents}
use Rattle.walks.specs.Walk.{all_loops}
use Rattle.tally.specs.Laws.{Ops, TallyLaws}
use Rattle.longest.specs.declared.Cell.{Cell}
use Rattle.longest.specs.Charge.{Costs, GreatestAt, Greatest}
use Rattle.longest.specs.Search.{greater, cell_at, table, highest, figure_of}
use Rattle.longest.specs.Claim.{Finds}
use Rattle.longest.proofs.Shape.{Shape, shape}
use Rattle.longest.proofs.Sums.{Le, same, trans, anti, least, greater_left, greater_right, greater_either}
use Rattle.longest.proofs.Entries.{standing, zero_block}
use Rattle.longest.proofs.Above.{bounded}
use Rattle.longest.proofs.Reached.{attained}
use Rattle.longest.proofs.Tables.{fresh_at}
use Rattle.longest.proofs.Local.{covers, attains}

module _ {T : Type 0} {m : Ops T} {size : T → ℕ} (laws : TallyLaws m size) where
  abbrev end : List (Cell T) → ℕ → T
  end s b = (cell_at m s b).weight.first

  highest_up : (s : List (Cell T)) (x : T) → Le m x (highest m s x)
  highest_up [] x = same laws x
  highest_up (y ∷ s) x = trans laws x (greater m x y.weight.first) _ (greater_left laws x y.weight.first)
      (highest_up s (greater m x y.weight.first))

  highest_each : (s : List (Cell T)) (x : T) (b : ℕ) → b < length s → Le m (end s b) (highest m s x)
  highest_each [] x b h = absurd (not-suc-le-zero h)
  highest_each (y ∷ s) x zero h =
      trans laws y.weight.first (greater m x y.weight.first) _ (greater_right laws x y.weight.first)
      (highest_up s (greater m x y.weight.first))
  highest_each (y ∷ s) x (suc b) h = highest_each s (greater m x y.weight.first) b (le_of_suc-le-suc h)

  highest_either : (s : List (Cell T)) (x : T) → (highest m s x ≡ x) ⊎ ((b : ℕ) × (b < length s) × (highest m s x ≡ end s b))
  highest_either [] x = inl refl
  highest_either (y ∷ s) x = elim (highest_either s (greater m x y.weight.first)) [
    | inr a ↦ inr (suc a.0, omega (arith, a.1), a.2)
    | inl u ↦ elim (greater_either laws x y.weight.first) [ inl v ↦ inl (u ∙ v) | inr v ↦ inr (0, omega arith, u ∙ v) ]
  ]

  highest_some : (s : List (Cell T)) → 0 < length s → (b : ℕ) × (b < length s) × (highest m s m.none ≡ end s b)
  highest_some s h = elim (highest_either s m.none) [
    | inr a ↦ a
    | inl u ↦ (0, h, u ∙ anti laws m.none (end s 0) (least laws (end s 0)) (subst (Le m (end s 0)) u (highest_each s m.none 0 h)))
  ]

  module _ (costs : Costs T) (c : Contents) (sound : Shape (length c.blocks) (all_loops c) c.edges) where
    pub table_long : length (table m costs c) ≡ length c.blocks
    table_long = (fresh_at m costs sound 0 (omega arith)).long

    pub table_greatest : (b : ℕ) → b < length c.blocks → GreatestAt m costs c b (end (table m costs c) b)
    table_greatest b h = record {
      bounded = λ w u k. bounded laws sound (covers laws costs sound) w b u k;
      attained = let a = attained laws sound (attains laws costs sound) b h in (a.0, a.1.walk, a.1.limited, a.1.charged);
    }

    pub figure_greatest : Greatest m costs c (figure_of m costs c)
    figure_greatest =
        let s = table m costs c in
        let most = highest_some s (omega (arith, table_long, zero_block sound)) in
        let b = most.0 in
        let a = (table_greatest b (omega (arith, table_long, most.1))).attained in
        record {
          bounded = λ b w u k.
              let h = (standing sound w b u k).block in
              trans laws _ (end s b) (figure_of m costs c) ((table_greatest b h).bounded w u k)
              (highest_each s m.none b (omega (arith, table_long)));
          attained = (b, a.0, a.1, a.2, a.3 ∙ sym most.2);
        }

  pub finds : Finds m
  finds costs c format sound = figure_greatest costs c (shape c format sound)
