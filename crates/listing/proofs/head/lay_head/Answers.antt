use Rattle.std.proofs.Common.{◌≡◌, ℕ, List, [], ◌∷◌, ◌++◌, codes, ap, ◌∙◌}
use Rattle.syntax.specs.Line.{line_text}
use Rattle.records.specs.Contents.{Contents}
use Rattle.task.specs.View.{task_contents}
use Rattle.examine.specs.Findings.{Findings, shown}
use Rattle.writer.proofs.Laying.{appends_then, appends_same}
use Rattle.writer.proofs.Parts.{line-append}
use Rattle.listing.specs.Load.{load_of}
use Rattle.listing.specs.Text.{fits_text, head_text}
use Rattle.listing.proofs.head.lay_head.Goals as goal

-- the lines, one after the other
parts : (c : Contents) (f : Findings) (word : List ℕ) (load : ℕ) → word ≡ fits_text f.figure c.header.window → load ≡ load_of f.figure c.header.window
    → head_text c f
    ≡ line_text (codes "figure=") (f.figure ∷ []) []
    ++ (codes "fits=" ++ (word ++ ((10 ∷ [])
    ++ (line_text (codes "load=") (load ∷ []) []
    ++ (line_text (codes "charged=") (f.greatest.0 ∷ []) []
    ++ (line_text (codes "fetches=") (f.greatest.1 ∷ []) [] ++ line_text (codes "passes=") (f.passes ∷ []) []))))))
parts c f word load w l =
    let passes : List ℕ = line_text (codes "passes=") (f.passes ∷ []) [] in
    let fetches : List ℕ → List ℕ = line_text (codes "fetches=") (f.greatest.1 ∷ []) in
    let charged : List ℕ → List ℕ = line_text (codes "charged=") (f.greatest.0 ∷ []) in
    rw (w, l)
    (line-append (codes "figure=") (f.figure ∷ []) [] _
    ∙ ap (λ t. line_text (codes "figure=") (f.figure ∷ []) [] ++ (codes "fits=" ++ (fits_text f.figure c.header.window ++ (10 ∷ t))))
    (line-append (codes "load=") (load_of f.figure c.header.window ∷ []) [] (charged (fetches passes))
    ∙ ap (λ t. line_text (codes "load=") (load_of f.figure c.header.window ∷ []) [] ++ t)
    (line-append (codes "charged=") (f.greatest.0 ∷ []) [] (fetches passes)
    ∙ ap (λ t. charged [] ++ t) (line-append (codes "fetches=") (f.greatest.1 ∷ []) [] passes))))

pub returns : goal.returns
returns c =
    let t = task_contents c.args.task.now in
    appends_same (parts t (shown t c.args.found.now) c.as_bytes.result.now c.load_of.result (c.as_bytes.ensures.value ∙ c.fits_word.ensures) c.load_of.ensures)
    (appends_then c.lay_line.ensures (appends_then c.lay_bytes.ensures (appends_then c.lay_bytes-2.ensures (appends_then c.lay_bytes-3.ensures
    (appends_then c.lay_line-2.ensures (appends_then c.lay_line-3.ensures (appends_then c.lay_line-4.ensures c.lay_line-5.ensures)))))))
