use Rattle.std.proofs.Common.{◌≡◌, ℕ, ◌^◌, ◌<◌, List, [], ◌++◌, length, ap, ◌∙◌, append-nil, arith}
use Rattle.std.proofs.lemmas.List.{drop_all, with_items_is}
use Rattle.task.specs.View.{task_contents}
use Rattle.examine.specs.Findings.{shown}
use Rattle.writer.specs.Lays.{Lays}
use Rattle.writer.proofs.Outcome.{wrote}
use Rattle.listing.specs.Text.{report_text}
use Rattle.listing.proofs.Bound.{report_small}
use Rattle.report.proofs.written.Goals as goal

-- a text that is laid into a buffer of just its length fills it
fills : (text old nothing new : List ℕ) (needed end : ℕ) → length text < 2 ^ 64 → Lays 0 text [] needed nothing → length old ≡ needed → Lays 0 text old end new → new ≡ text
fills text old nothing new needed end small m long l =
    let w = wrote text old nothing new needed end small m (omega arith) l in
    w.2 ∙ ap (λ rest. text ++ rest) (drop_all end old (omega (arith, w.0, m.ends (omega arith)))) ∙ append-nil text

pub returns : goal.returns
returns c =
    let t = c.args.task.now in
    let text = c.in_ok-text.text in
    let out = c.lay_report.new.out in
    with_items_is text out (omega (arith, c.lay_report.auto.out, c.deref_mut.ensures.len))
    ∙ fills (report_text (task_contents t) (shown (task_contents t) c.args.found.now)) c.deref_mut.result.now _ out c.lay_report-length.result c.lay_report.result
    (report_small (task_contents t) t.«record».ranges t.sound c.args.found.now) c.lay_report-length.ensures
    (omega (arith, c.deref_mut.ensures.len, c.in_ok-text.ensures.len)) c.lay_report.ensures
