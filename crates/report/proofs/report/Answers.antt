use Rattle.std.proofs.Common.{◌≡◌, ℕ, true, List, Ok, Err, Result, Vec, MatchResult, IfOk, vec_items, sym, ap, ◌∙◌, subst, inl, inr, rules}
use Rattle.std.specs.Result.{is_ok}
use Rattle.std.specs.declared.alloc.AllocError.{AllocError}
use Rattle.std.specs.declared.alloc.Global.{Global}
use Rattle.std.proofs.lemmas.Result.{err_from_is_err_and, MatchResult-weaker}
use Rattle.records.specs.Contents.{Contents}
use Rattle.task.specs.declared.Task.{Task}
use Rattle.task.specs.View.{task_contents}
use Rattle.load.specs.declared.refusal.Refusal.{Refusal}
use Rattle.load.specs.declared.refusal.Refusal.TheVariants.{NoMemory}
use Rattle.load.specs.Loading.{Loading, Gives, ReadsBack}
use Rattle.slot_kind.specs.Slots.{slot_kind, slots_fetched}
use Rattle.examine.specs.declared.examination.Examination.{Examination}
use Rattle.examine.specs.declared.examination.ExamineError.{ExamineError}
use Rattle.examine.specs.Findings.{shown}
use Rattle.examine.specs.Examined.{Accepted}
use Rattle.listing.specs.Text.{report_text}
use Rattle.report.specs.Reported.{Worthy, Reported, Worth}
use Rattle.report.proofs.Small.{worthy}
use Rattle.report.proofs.report.Goals as goal

-- the task that was loaded has the record's contents
same : (t : Task) (c : Contents) → Gives c (Ok t) → task_contents t ≡ c
same t c (inl e) = cc
same t c (inr e) = absurd (cc)

-- an examination that was not refused
accepted : (c : Contents) (r : Result Examination ExamineError) (e : Examination) (P Q : ExamineError → Type 0) → MatchResult r (Accepted slot_kind slots_fetched c) Q
    → MatchResult r (λ x. ◌≡◌ {A = Result Examination Refusal} (Ok e) (Ok x)) P → true ≡ is_ok r → Accepted slot_kind slots_fetched c e
accepted c (Ok x) e P Q h is ok = let q : e ≡ x = cc in subst (Accepted slot_kind slots_fetched c) (sym q) h
accepted c (Err x) e P Q h is ok = absurd (cc)

-- its report, or no memory for that
reported : (bytes : List ℕ) (t : Task) (e : Examination) (w : Result (Vec ℕ Global) AllocError) (r : Result (Vec ℕ Global) Refusal) → Loading bytes (Ok t) → ReadsBack bytes (Ok t)
    → Accepted slot_kind slots_fetched (task_contents t) e → IfOk w (λ v. vec_items v ≡ report_text (task_contents t) (shown (task_contents t) e))
    → MatchResult w (λ v. r ≡ Ok v) (λ _. r ≡ Err NoMemory) → Reported bytes r × Worth bytes r
reported bytes t e (Ok v) r loads back a text is =
    let k = task_contents t in
    subst (λ z. Reported bytes z × Worth bytes z) (sym is) (
      record { contents = k; format = t.«record».ranges; sound = t.sound; bytes_are = loads; text_is = text ∙ ap (report_text k) a.shows },
      λ d format sound q. subst Worthy (same t d (back d format sound q)) (worthy k t.«record».ranges t.sound a.worth),
    )
reported bytes t e (Err x) r loads back a text is = subst (λ z. Reported bytes z × Worth bytes z) (sym is) (tt, tt)

pub returns : goal.returns
returns c =
    let t = c.in_ok-task.task in
    let found = accepted (task_contents t) c.examined.result c.in_ok-found.found _ _ c.examined.ensures c.in_ok-found.ensures.cases c.in_ok-found.ensures.variant in
    let is = MatchResult-weaker c.written.result {P' = λ v. c.map_err-2.result ≡ Ok v} {Q' = λ _. c.map_err-2.result ≡ Err NoMemory} c.map_err-2.ensures.cases (λ v e. e)
    (λ e q. let x = err_from_is_err_and c.map_err-2.result q in x.1 ∙ ap Err (search (rules, x.2))) in
    let r = reported c.args.bytes.now t c.in_ok-found.found c.written.result c.map_err-2.result c.in_ok-task.ensures.outcome c.in_ok-task.ensures.back found c.written.ensures is in
    record { outcome = r.0; worth = r.1 }
