-- A text has one outcome.
use Rattle.std.proofs.Common.{◌≡◌, ℕ, ◌<◌, ◌≤◌, List, length, Ok, Err, Result, sym, refl, ap, ◌∙◌, subst, inl, inr, arith}
use Rattle.syntax.specs.Fault.{TextFault}
use Rattle.records.specs.Contents.{Contents}
use Rattle.records.specs.Layout.{InFormat, record_text}
use Rattle.records.specs.View.{contents}
use Rattle.reader.specs.declared.error.ReadError.{ReadError}
use Rattle.reader.specs.declared.error.ReadError.TheVariants as read
use Rattle.reader.specs.Reading.{Refused, Reading}
use Rattle.reader.proofs.Once.{same_text, only_long, one_refusal}
use Rattle.writer.proofs.Bound.{text_bound}
use Rattle.task.specs.declared.Task.{Task}
use Rattle.task.specs.Fault.{GraphFault}
use Rattle.task.specs.Rules.{Sound, FirstBroken}
use Rattle.task.proofs.Tried.{first_once, first_unsound}
use Rattle.load.specs.declared.refusal.Refusal.{Refusal}
use Rattle.load.specs.declared.refusal.Refusal.TheVariants.{Text, Graph, NoMemory}
use Rattle.load.specs.Refusal.{carried}
use Rattle.load.specs.Loading.{Loading, Agree, OneReading, Gives, ReadsBack}

-- what the reader refuses is refused with the same fault
pub carried_on : (t : List ℕ) (e : ReadError) → Reading t (Err e) → Loading t (Err (carried e))
carried_on t (read.Fault f) h = h
carried_on t read.NoMemory h = tt

-- the text of a record breaks no rule of the text
not_refused : (t : List ℕ) (c : Contents) (f : TextFault) → InFormat c → t ≡ record_text c → Refused t f → ⊥
not_refused t c f h e r =
    let long : 16384 < length t = only_long c t f h e r in
    let short : length (record_text c) ≤ 16384 = text_bound c h in
    omega (arith, ap length e)

-- a sound record breaks no rule of the graph
not_broken : (c d : Contents) (f : GraphFault) → c ≡ d → Sound c → FirstBroken d f → ⊥
not_broken c d f e s b = first_unsound d f b (subst Sound e s)

same_fault : (c d : Contents) (f g : GraphFault) → c ≡ d → FirstBroken c f → FirstBroken d g → f ≡ g
same_fault c d f g e p q = first_once d f g (subst (λ (x : Contents). FirstBroken x f) e p) q

agree : (t : List ℕ) (a b : Result Task Refusal) → Loading t a → Loading t b → Agree a b
agree t (Ok k) (Ok l) p q = inl (ap Ok (same_text (contents k.«record») (contents l.«record») k.«record».ranges l.«record».ranges (sym p ∙ q)))
agree t (Ok k) (Err (Text g)) p q = absurd (not_refused t (contents k.«record») g k.«record».ranges p q)
agree t (Ok k) (Err (Graph g)) p q =
    absurd (not_broken (contents k.«record») q.0 g (same_text (contents k.«record») q.0 k.«record».ranges q.1 (sym p ∙ q.2)) k.sound q.3)
agree t (Ok k) (Err NoMemory) p q = inr (inr refl)
agree t (Err (Text f)) (Ok l) p q = absurd (not_refused t (contents l.«record») f l.«record».ranges q p)
agree t (Err (Text f)) (Err (Text g)) p q = inl (ap (λ (x : TextFault). Err (Text x)) (one_refusal t f g p q))
agree t (Err (Text f)) (Err (Graph g)) p q = absurd (not_refused t q.0 f q.1 q.2 p)
agree t (Err (Text f)) (Err NoMemory) p q = inr (inr refl)
agree t (Err (Graph f)) (Ok l) p q =
    absurd (not_broken (contents l.«record») p.0 f (same_text (contents l.«record») p.0 l.«record».ranges p.1 (sym q ∙ p.2)) l.sound p.3)
agree t (Err (Graph f)) (Err (Text g)) p q = absurd (not_refused t p.0 g p.1 p.2 q)
agree t (Err (Graph f)) (Err (Graph g)) p q =
    inl (ap (λ (x : GraphFault). Err (Graph x)) (same_fault p.0 q.0 f g (same_text p.0 q.0 p.1 q.1 (sym p.2 ∙ q.2)) p.3 q.3))
agree t (Err (Graph f)) (Err NoMemory) p q = inr (inr refl)
agree t (Err NoMemory) b p q = inr (inl refl)

gives : (t : List ℕ) (a : Result Task Refusal) → Loading t a → (c : Contents) → InFormat c → Sound c → t ≡ record_text c → Gives c a
gives t (Ok k) p c h s e = inl (ap Ok (same_text (contents k.«record») c k.«record».ranges h (sym p ∙ e)))
gives t (Err (Text f)) p c h s e = absurd (not_refused t c f h e p)
gives t (Err (Graph f)) p c h s e = absurd (not_broken c p.0 f (same_text c p.0 h p.1 (sym e ∙ p.2)) s p.3)
gives t (Err NoMemory) p c h s e = inr refl

-- what an outcome that the rules allow comes with
pub promised : (t : List ℕ) (a : Result Task Refusal) → Loading t a → record { outcome : Loading t a; once : OneReading t a; back : ReadsBack t a }
promised t a h = record { outcome = h; once = λ b q. agree t a b h q; back = gives t a h }
