-- The report of a task, line by line.
use Rattle.std.specs.Prelude.{ℕ, true, false, List, [], ◌∷◌, ◌++◌, length, codes, decimal, nat_le, slice_index_or}
use Rattle.std.specs.List.{range_with_len, flat_map}
use Rattle.syntax.specs.Line.{line_text}
use Rattle.records.specs.Contents.{Contents}
use Rattle.categories.specs.declared.category.Category.{Category}
use Rattle.categories.specs.Category.{fetches_of, line_of}
use Rattle.categories.specs.Letters.{letters_of}
use Rattle.examine.specs.Findings.{Findings}
use Rattle.listing.specs.Load.{load_of}

-- categories by their letters, parted by slashes
abbrev pub categories_text : List Category → List ℕ
categories_text [] = []
categories_text (x ∷ xs) = letters_of x ++ flat_map (λ y. 47 ∷ letters_of y) xs

-- a number, and a comma after it
abbrev pub field : ℕ → List ℕ
field n = decimal n ++ (44 ∷ [])

-- the line of a fetch: its block, its number there, its program line, and its category at each level, innermost first
abbrev pub row_text : ℕ → ℕ → ℕ → List Category → List ℕ
row_text b j line categories = codes "fetch=" ++ (field b ++ (field j ++ (field line ++ (categories_text categories ++ (10 ∷ [])))))

-- the categories found for fetch j of block b
abbrev pub categories_of : Findings → ℕ → ℕ → List Category
categories_of f b j = slice_index_or (slice_index_or f.categories b []) j []

-- the line of fetch j of block b
abbrev pub fetch_text : Contents → Findings → ℕ → ℕ → List ℕ
fetch_text c f b j = row_text b j (line_of c b j) (categories_of f b j)

-- the lines of block b's fetches, in order; of a block that is not there, none
abbrev pub block_text : Contents → Findings → ℕ → List ℕ
block_text c f b = flat_map (fetch_text c f b) (range_with_len 0 (fetches_of c b))

-- whether the figure is within the window
abbrev pub fits_text : ℕ → ℕ → List ℕ
fits_text figure window = elim (nat_le figure window) [ true ↦ codes "yes" | false ↦ codes "no" ]

-- the lines before the fetches
abbrev pub head_text : Contents → Findings → List ℕ
head_text c f =
    line_text (codes "figure=") (f.figure ∷ [])
    (codes "fits=" ++ (fits_text f.figure c.header.window ++ (10 ∷
    line_text (codes "load=") (load_of f.figure c.header.window ∷ [])
    (line_text (codes "charged=") (f.greatest.0 ∷ [])
    (line_text (codes "fetches=") (f.greatest.1 ∷ [])
    (line_text (codes "passes=") (f.passes ∷ []) []))))))

-- the whole report: those, and then the fetches of every block in order
abbrev pub report_text : Contents → Findings → List ℕ
report_text c f = head_text c f ++ flat_map (block_text c f) (range_with_len 0 (length c.blocks))
