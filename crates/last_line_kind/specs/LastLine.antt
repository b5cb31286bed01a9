-- The last-line kind of cache state: the latest fetched line.
use Rattle.std.specs.Prelude.{ℕ, Bool, true, false, cond, ◌==◌, nat_lt}
use Rattle.records.specs.declared.parts.Geometry.{Geometry}
use Rattle.facts.specs.Kind.{Situation, Kind}
use Rattle.cache_state.specs.Cache.{Resident, fetch_all, fetch_lines}
use Rattle.last_line_kind.specs.declared.LastLine.{LastLine}
use Rattle.last_line_kind.specs.declared.LastLine.TheVariants.{Nothing, Line, Unknown}

-- the cache holds the latest line, if that is known
abbrev pub last_allows : Geometry → LastLine → Situation → Type 0
last_allows g Nothing c = ⊥
last_allows g (Line t) c = Resident g c t
last_allows g Unknown c = Unit {0}

-- sure of the latest line only; nothing_yet of every line
abbrev pub last_sure : LastLine → ℕ → Bool
last_sure Nothing t = true
last_sure (Line u) t = u == t
last_sure Unknown t = false

-- nothing_yet adds nothing; else the line that both have
abbrev pub last_joined : LastLine → LastLine → LastLine
last_joined Nothing y = y
last_joined (Line t) Nothing = Line t
last_joined (Line t) (Line u) = cond (t == u) (Line t) Unknown
last_joined (Line t) Unknown = Unknown
last_joined Unknown y = Unknown

-- from nothing_yet to a line, and from a line to none
abbrev pub last_ranked : LastLine → ℕ
last_ranked Nothing = 2
last_ranked (Line t) = 1
last_ranked Unknown = 0

-- after a fetch of line t it is the latest
abbrev pub last_fetched : ℕ → LastLine → LastLine
last_fetched t Nothing = Nothing
last_fetched t (Line u) = Line t
last_fetched t Unknown = Line t

-- the cache has a slot
abbrev pub last_taken : Geometry → Bool
last_taken g = nat_lt 0 g.slots

-- the last-line kind in a cache of this geometry
abbrev pub last_kind : Geometry → Kind LastLine
last_kind g = record {
  allows = last_allows g;
  has = Resident g;
  sure = last_sure;
  joined = last_joined;
  ranked = last_ranked;
  height = 2;
  nothing_yet = Nothing;
  open_state = Unknown;
  passed = λ _ block x. fetch_all last_fetched (fetch_lines g block) x;
}
