-- States that are alike to the join of finitely many states of a family.
use Rattle.std.proofs.Common.{◌≡◌, ℕ, true, sym, ◌∙◌}
use Rattle.std.proofs.lemmas.Bool.{and_from}
use Rattle.facts.specs.Kind.{Kind}
use Rattle.facts.specs.Laws.{Alike, Above, Lawful, Through}
use Rattle.facts.specs.Meaning.{Least}
use Rattle.facts.proofs.Order.{alike_self, alike_back, above_alike, above_both, above_sure, above_through}

pub data Joined {K : Type 0} (k : Kind K) (W : K → Type 0) : K → Type 0 where
  none_of : Joined k W k.nothing_yet
  one_of : {x : K} → W x → Joined k W x
  two_of : {x y : K} → Joined k W x → Joined k W y → Joined k W (k.joined x y)
  like_of : {x y : K} → Joined k W x → Alike k x y → Joined k W y

module _ {K : Type 0} {k : Kind K} where
  pub joined_through : {W V : K → Type 0} {g : K → K} → Through k g → ((x : K) → W x → V (g x)) → {x : K} → Joined k W x → Joined k V (g x)
  joined_through t f none_of = like_of none_of (alike_back t.distributes.keeps)
  joined_through t f (one_of {x = x} w) = one_of (f x w)
  joined_through t f (two_of {x = x} {y = y} p q) =
      like_of (two_of (joined_through t f p) (joined_through t f q)) (alike_back (t.distributes.spreads x y))
  joined_through t f (like_of {x = x} {y = y} p a) = like_of (joined_through t f p) (t.respects x y a)

  pub joined_weaker : {W V : K → Type 0} → ((x : K) → W x → V x) → {x : K} → Joined k W x → Joined k V x
  joined_weaker f none_of = none_of
  joined_weaker f (one_of {x = x} w) = one_of (f x w)
  joined_weaker f (two_of p q) = two_of (joined_weaker f p) (joined_weaker f q)
  joined_weaker f (like_of p a) = like_of (joined_weaker f p) a

module _ {K : Type 0} {k : Kind K} (laws : Lawful k) where
  pub joined_sure : {W : K → Type 0} (t : ℕ) → ((x : K) → W x → k.sure x t ≡ true) → {x : K} → Joined k W x → k.sure x t ≡ true
  joined_sure t f none_of = laws.vacuous t
  joined_sure t f (one_of {x = x} w) = f x w
  joined_sure t f (two_of {x = x} {y = y} p q) =
      laws.both x y t ∙ and_from (k.sure x t) (k.sure y t) (joined_sure t f p) (joined_sure t f q)
  joined_sure t f (like_of p a) = sym (a.same t) ∙ joined_sure t f p

  pub joined_least : {W : K → Type 0} (z : K) → ((x : K) → W x → Above k z x) → {x : K} → Joined k W x → Above k z x
  joined_least z f none_of = laws.neutral z
  joined_least z f (one_of {x = x} w) = f x w
  joined_least z f (two_of p q) = above_both laws (joined_least z f p) (joined_least z f q)
  joined_least z f (like_of p a) = above_alike laws (alike_self z) a (joined_least z f p)

  -- a join of states of W that lies above all of W is the least above them
  pub least_joined : (W : K → Type 0) (x : K) → Joined k W x → ((y : K) → W y → Above k x y) → Least k W x
  least_joined W x made over = record {
    above = over;
    least = λ z f. joined_least z f made;
    sure = λ g through t. (
      λ s y w. above_sure laws (g x) (g y) t (above_through through (over y w)) s,
      λ s. joined_sure {W = λ z. k.sure z t ≡ true} t (λ z e. e) (joined_through through s made),
    );
  }
