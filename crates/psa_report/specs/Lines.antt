-- Lines of products made one after another. This project's own.
use Rattle.std.specs.Prelude.{◌≡◌, ◌≤◌, ◌<◌, ◌+◌, ◌++◌, ℕ, zero, suc, List, [], ◌∷◌, Option, Some, None, codes, flat_map, length, take}
use Rattle.std.specs.Fmt.{decimal}
use Rattle.psa_logic.specs.Products.{literal_number}
use Rattle.psa_number.specs.Ends.{Ends}
use Rattle.psa_model.specs.declared.expanded.Expanded.{Expanded}
use Rattle.psa_model.specs.declared.ids.EventNumber.{EventNumber}
use Rattle.psa_model.specs.declared.product.Literal.{Literal}
use Rattle.psa_model.specs.declared.product.TheConstants.{MAX_ORDER}
use Rattle.psa_model.specs.Literals.{literals_of}
use Rattle.psa_model.specs.Report.{ends_text, literal_text}
use Rattle.psa_report.specs.declared.lines.KeptLine.{KeptLine}

-- what the lines are written by
pub record Naming : Type 0 where
  pub expanded : Expanded
  pub ranks : List EventNumber

-- the beginning of the line of a product with so many literals
abbrev pub order_text : ℕ → List ℕ
order_text order = codes "- " ++ decimal order

-- a bound behind a space, where there is one
abbrev pub spaced_bound : Option Ends → List ℕ
spaced_bound None = []
spaced_bound (Some bound) = codes " " ++ ends_text bound

-- a literal by its number behind a space
abbrev pub spaced_literal : Naming → ℕ → List ℕ
spaced_literal naming literal = codes " " ++ literal_text naming.expanded naming.ranks literal

-- literals, each behind a space
abbrev pub spaced_literals : Naming → List Literal → List ℕ
spaced_literals naming literals = flat_map (spaced_literal naming) (literals_of literals)

-- behind so many bytes, where the text of the first literal ends, where that of the second, and so on
abbrev pub ends_after : Naming → ℕ → List Literal → List ℕ
ends_after naming at [] = []
ends_after naming at (literal ∷ literals) =
    (at + length (spaced_literal naming (literal_number literal.rank literal.occurs)))
    ∷ ends_after naming (at + length (spaced_literal naming (literal_number literal.rank literal.occurs))) literals

-- the beginning that a line keeps: none of the order 0
abbrev pub begun : ℕ → List ℕ
begun zero = []
begun (suc order) = order_text (suc order)

-- what a line keeps: its beginning, and the literals that count
abbrev pub made : Naming → KeptLine → List ℕ
made naming kept = begun kept.order ++ spaced_literals naming (take kept.count kept.literals)

-- where its beginning ends, and where each literal that counts
pub record IsMarked (naming : Naming) (kept : KeptLine) : Type 0 where
  pub start : kept.start ≡ length (begun kept.order)
  pub count : kept.count ≤ MAX_ORDER
  pub many_literals : length kept.literals ≡ MAX_ORDER
  pub many_ends : length kept.ends ≡ MAX_ORDER
  pub ends : take kept.count kept.ends ≡ ends_after naming kept.start (take kept.count kept.literals)

-- the line begins with what it keeps
pub record IsKept (naming : Naming) (kept : KeptLine) : Type 0 where
  pub marked : IsMarked naming kept
  pub rest : List ℕ
  pub text : kept.line.text.items ≡ made naming kept ++ rest

-- the line is what it keeps
pub record IsExact (naming : Naming) (kept : KeptLine) : Type 0 where
  pub marked : IsMarked naming kept
  pub text : kept.line.text.items ≡ made naming kept

-- the line is that of a product of these literals without its bound, which stands behind its beginning
pub record IsComposed (naming : Naming) (literals : List Literal) (kept : KeptLine) : Type 0 where
  pub start : kept.start ≡ length (order_text (length literals))
  pub text : kept.line.text.items ≡ order_text (length literals) ++ (spaced_literals naming literals ++ codes "\n")
  pub some : 0 < length literals
