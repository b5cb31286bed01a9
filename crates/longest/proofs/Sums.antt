-- Sums and their order, over any lawful tally.
use Rattle.std.proofs.Common.{◌≡◌, ℕ, suc, Bool, true, false, ◌⊎◌, sym, refl, ap, ◌∙◌, subst, inl, inr}
use Rattle.std.proofs.lemmas.Bool.{cases_Bool, both_ways, cond_both}
use Rattle.tally.specs.Laws.{Ops, TallyLaws}
use Rattle.longest.specs.Search.{greater}

-- x is not above y
abbrev pub Le : {T : Type 0} → Ops T → T → T → Type 0
Le m x y = m.below y x ≡ false

module _ {T : Type 0} {m : Ops T} {size : T → ℕ} (laws : TallyLaws m size) where
  not_both : (b : Bool) → (b ≡ true → ⊥) → b ≡ false
  not_both true h = absurd (h refl)
  not_both false h = refl

  pub same : (x : T) → Le m x x
  same x = laws.irreflexive x

  pub same_le : (x y : T) → x ≡ y → Le m x y
  same_le x y e = subst (λ z. Le m x z) e (same x)

  pub weak : (x y : T) → m.below x y ≡ true → Le m x y
  weak x y h = not_both (m.below y x) (λ t. both_ways (m.below x x) (laws.irreflexive x) (laws.transitive x y x h t))

  pub trans : (x y z : T) → Le m x y → Le m y z → Le m x z
  trans x y z p q = not_both (m.below z x) (λ t. elim (cases_Bool (m.below x y)) [
    | inl u ↦ both_ways (m.below z y) q (laws.transitive z x y t u)
    | inr u ↦ both_ways (m.below z y) q (subst (λ w. m.below z w ≡ true) (laws.total x y u p) t)
  ])

  pub anti : (x y : T) → Le m x y → Le m y x → x ≡ y
  anti x y p q = laws.total x y q p

  pub kept : (x y z : T) → Le m x y → Le m (m.plus z x) (m.plus z y)
  kept x y z p = laws.kept y x z ∙ p

  pub least : (x : T) → Le m m.none x
  least x = laws.least x

  pub right : (x : T) → m.plus x m.none ≡ x
  right x = laws.comm x m.none ∙ laws.neutral x

  pub both : (a b c d : T) → Le m a b → Le m c d → Le m (m.plus a c) (m.plus b d)
  both a b c d p q =
      trans (m.plus a c) (m.plus a d) (m.plus b d) (kept c d a q)
      (let r : Le m (m.plus d a) (m.plus d b) = kept a b d p in rw (laws.comm a d, laws.comm b d) r)

  -- a part is not above the whole
  pub part : (x y : T) → Le m x (m.plus x y)
  part x y = subst (λ z. Le m z (m.plus x y)) (right x) (kept m.none y x (least y))

  -- a new stay
  pub stay_begins : (c s v i st b : T) → Le m c (m.plus s v) → Le m v i → Le m st b → Le m (m.plus c st) (m.plus (m.plus s i) b)
  stay_begins c s v i st b p q r = both c (m.plus s i) st b (trans c (m.plus s v) (m.plus s i) p (kept v i s q)) r

  -- a new round
  pub round_begins : (c s v x b t d : T) → Le m c (m.plus s v) → Le m v t → Le m s (m.plus x b) → Le m (m.plus b t) d
      → Le m c (m.plus x d)
  round_begins c s v x b t d p q r u =
      trans c (m.plus s v) _ p (trans _ (m.plus (m.plus x b) t) _ (both s (m.plus x b) v t r q)
      (rw laws.assoc (kept (m.plus b t) d x u)))

  -- a step inside a round
  pub stepped : (c s v k w : T) → Le m c (m.plus s v) → Le m (m.plus v k) w → Le m (m.plus c k) (m.plus s w)
  stepped c s v k w p q =
      trans _ (m.plus (m.plus s v) k) _ (both c (m.plus s v) k k p (same k)) (rw laws.assoc (kept (m.plus v k) w s q))

  -- seen one loop further out
  pub folded : (c s v x i b w u : T) → Le m c (m.plus s v) → Le m s (m.plus (m.plus x i) b) → Le m (m.plus b v) w → Le m (m.plus i w) u
      → Le m c (m.plus x u)
  folded c s v x i b w u p q r z =
      trans c (m.plus (m.plus x i) w) _ (round_begins c s v (m.plus x i) b v w p (same v) q r)
      (rw laws.assoc (kept (m.plus i w) u x z))

  -- the greater of two
  pub greater_left : (x y : T) → Le m x (greater m x y)
  greater_left x y = cond_both (m.below x y) y x (λ r. Le m x r) (λ t. weak x y t) (λ _. same x)

  pub greater_right : (x y : T) → Le m y (greater m x y)
  greater_right x y = cond_both (m.below x y) y x (λ r. Le m y r) (λ _. same y) (λ f. f)

  pub greater_either : (x y : T) → (greater m x y ≡ x) ⊎ (greater m x y ≡ y)
  greater_either x y = cond_both (m.below x y) y x (λ r. (r ≡ x) ⊎ (r ≡ y)) (λ _. inr refl) (λ _. inl refl)

  pub times_none : (x : T) → m.times 0 x ≡ m.none
  times_none x = laws.multiple 0 x

  pub times_more : (n : ℕ) (x : T) → m.times (suc n) x ≡ m.plus (m.times n x) x
  times_more n x = laws.multiple (suc n) x ∙ ap (λ y. m.plus y x) (sym (laws.multiple n x))
