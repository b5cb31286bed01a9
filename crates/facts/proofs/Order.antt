-- Alike states, states above others, and maps that go through joins.
use Rattle.std.proofs.Common.{◌≡◌, ℕ, true, sym, refl, ◌∙◌}
use Rattle.std.proofs.lemmas.Bool.{and_parts}
use Rattle.records.specs.declared.parts.Block.{Block}
use Rattle.facts.specs.Kind.{Situation, Kind}
use Rattle.facts.specs.Laws.{Alike, Above, Lawful, Distributing, Through}

module _ {K : Type 0} {k : Kind K} where
  pub alike_self : (x : K) → Alike k x x
  alike_self x = record { to = λ s h. h; fro = λ s h. h; same = λ t. refl }

  pub alike_back : {x y : K} → Alike k x y → Alike k y x
  alike_back a = record { to = a.fro; fro = a.to; same = λ t. sym (a.same t) }

  pub alike_then : {x y z : K} → Alike k x y → Alike k y z → Alike k x z
  alike_then a b = record { to = λ s h. b.to s (a.to s h); fro = λ s h. a.fro s (b.fro s h); same = λ t. a.same t ∙ b.same t }

module _ {K : Type 0} {k : Kind K} (laws : Lawful k) where
  pub join_left : {x x' : K} (y : K) → Alike k x x' → Alike k (k.joined x y) (k.joined x' y)
  join_left {x} {x'} y a = laws.joins x x' y y a (alike_self y)

  pub join_right : {y y' : K} (x : K) → Alike k y y' → Alike k (k.joined x y) (k.joined x y')
  join_right {y} {y'} x a = laws.joins x x y y' (alike_self x) a

  pub above_alike : {x x' y y' : K} → Alike k x x' → Alike k y y' → Above k x y → Above k x' y'
  above_alike {x} {x'} {y} {y'} a b h = alike_then (laws.joins x' x y' y (alike_back a) (alike_back b)) (alike_then h a)

  pub above_then : {x y z : K} → Above k x y → Above k y z → Above k x z
  above_then {x} {y} {z} h i =
      alike_then (join_left z (alike_back h)) (alike_then (laws.assoc x y z) (alike_then (join_right x i) h))

  pub above_left : (x y : K) → Above k (k.joined x y) x
  above_left x y =
      alike_then (laws.comm (k.joined x y) x) (alike_then (alike_back (laws.assoc x x y)) (join_left y (laws.idem x)))

  pub above_right : (x y : K) → Above k (k.joined x y) y
  above_right x y = alike_then (laws.assoc x y y) (join_right x (laws.idem y))

  pub above_both : {x y z : K} → Above k z x → Above k z y → Above k z (k.joined x y)
  above_both {x} {y} {z} h i = alike_then (alike_back (laws.assoc z x y)) (alike_then (join_left y h) i)

  pub above_sure : (x y : K) (t : ℕ) → Above k x y → k.sure x t ≡ true → k.sure y t ≡ true
  above_sure x y t h e = (and_parts (k.sure x t) (k.sure y t) (sym (laws.both x y t) ∙ h.same t ∙ e)).1

  pub above_allows : (x y : K) (s : Situation) → Above k x y → k.allows y s → k.allows x s
  above_allows x y s h a = h.to s ((laws.comm y x).to s (laws.wider y x s a))

  pub passing : Distributing k → (b : ℕ) (c : Block) → Through k (k.passed b c)
  passing d b c = record { respects = laws.passes b c; distributes = d b c }

module _ {K : Type 0} {k : Kind K} where
  pub above_through : {g : K → K} → Through k g → {x y : K} → Above k x y → Above k (g x) (g y)
  above_through {g} t {x} {y} h = alike_then (alike_back (t.distributes.spreads x y)) (t.respects (k.joined x y) x h)

  pub through_none : Through k (λ x. x)
  through_none =
      record { respects = λ x y a. a; distributes = record { spreads = λ x y. alike_self (k.joined x y); keeps = alike_self k.nothing_yet } }

  pub through_then : {f g : K → K} → Through k f → Through k g → Through k (λ x. g (f x))
  through_then {f} {g} s t = record {
    respects = λ x y a. t.respects (f x) (f y) (s.respects x y a);
    distributes = record {
      spreads = λ x y.
          alike_then (t.respects (f (k.joined x y)) (k.joined (f x) (f y)) (s.distributes.spreads x y)) (t.distributes.spreads (f x) (f y));
      keeps = alike_then (t.respects (f k.nothing_yet) k.nothing_yet s.distributes.keeps) t.distributes.keeps;
    };
  }
