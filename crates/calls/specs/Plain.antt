-- The plain run: what a list of calls comes to by their arguments alone, with no analysis.
use Rattle.std.specs.Prelude.{◌≡◌, ℕ, ◌*◌, ◌≤◌, true, false, ◌⊎◌, List, [], ◌∷◌, length}
use Rattle.records.specs.Contents.{Contents}
use Rattle.cache_state.specs.Cache.{Cache}
use Rattle.run.specs.Run.{Run, entered, fresh}
use Rattle.calls.specs.declared.call.Call.{Call}
use Rattle.calls.specs.declared.call.Call.TheVariants.{Load, Examine, Start, Step, Close}
use Rattle.calls.specs.declared.stage.StageName.{StageName}
use Rattle.calls.specs.declared.stage.StageName.TheVariants.{Unused, Loaded, Examined, Walking}
use Rattle.calls.specs.View.{taken, no_task, no_walk}
use Rattle.calls.specs.Outcomes.{Reads, Free}

-- What it keeps: the task, and of the open walk its starting cache, the blocks entered, the latest first, and the slots, block,
-- rounds and counts that these have come to.
pub data Plain : Type 0 where
  unused : Plain
  loaded : Contents → Plain
  examined : Contents → Plain
  walking : Contents → Cache → List ℕ → Run → Plain

abbrev pub plain_stage : Plain → StageName
plain_stage unused = Unused
plain_stage (loaded c) = Loaded
plain_stage (examined c) = Examined
plain_stage (walking c s w r) = Walking

abbrev pub plain_task : Plain → Contents
plain_task unused = no_task
plain_task (loaded c) = c
plain_task (examined c) = c
plain_task (walking c s w r) = c

-- a block is entered after these, from this starting cache
abbrev pub enter : Contents → Cache → List ℕ → Run → ℕ → Plain
enter c s w r b = walking c s (b ∷ w) (entered c b r)

-- the open walk enters a block
abbrev pub onward : Plain → ℕ → Plain
onward unused b = unused
onward (loaded c) b = loaded c
onward (examined c) b = examined c
onward (walking c s w r) b = enter c s w r b

abbrev pub plain_walk : Plain → Run
plain_walk unused = no_walk
plain_walk (loaded c) = no_walk
plain_walk (examined c) = no_walk
plain_walk (walking c s w r) = r

-- the call is of the stage and is accepted, and leads to p'; or it is refused, and the plain run stays
abbrev pub Moves : Call → Type 0 → Plain → Plain → Plain → Type 0
Moves call accepted p p' q =
    elim (taken call (plain_stage p)) [ true ↦ (accepted × (q ≡ p')) ⊎ ((accepted → ⊥) × (q ≡ p)) | false ↦ q ≡ p ]

-- the task of the text, where it is one
abbrev pub PlainLoad : List ℕ → Plain → Plain → Type 0
PlainLoad t p q =
    elim (taken Load (plain_stage p)) [
      | true ↦ ((c : Contents) × Reads t c × (q ≡ loaded c)) ⊎ (((c : Contents) → Reads t c → ⊥) × (q ≡ p))
      | false ↦ q ≡ p
    ]

-- a working list of n states
abbrev pub PlainExamine : ℕ → Plain → Plain → Type 0
PlainExamine n p q = Moves Examine (2 * length (plain_task p).blocks ≤ n) p (examined (plain_task p)) q

abbrev pub PlainStart : Cache → Plain → Plain → Type 0
PlainStart s p q =
    Moves Start (length s ≡ (plain_task p).header.geometry.slots) p (enter (plain_task p) s [] (fresh (plain_task p) s) 0) q

abbrev pub PlainStep : ℕ → Plain → Plain → Type 0
PlainStep b p q = Moves Step (Free (plain_task p) (plain_walk p) b) p (onward p b) q

abbrev pub PlainClose : Plain → Plain → Type 0
PlainClose p q = Moves Close (Unit {0}) p (examined (plain_task p)) q
