-- The line of a product in the parts in which it is made, and what a line keeps.
use Rattle.std.proofs.Common.{◌≡◌, ◌∙◌, ◌+◌, ◌<◌, ◌≤◌, ℕ, zero, suc, List, [], ◌∷◌, ◌++◌, Option, Some, None, Result, Ok, Err, true, false, codes, drop, get_or, set, take, length, refl, sym, ap, ap₂, append_assoc, append-nil, length-append, arith, if◌then◌else◌}
use Rattle.std.proofs.lemmas.Grind.{common_steps}
use Rattle.std.proofs.lemmas.List.{drop_all, drop_more, get_or-take, length-map, length-set, length-take-le, take-append-drop, take-take, take_more_set}
use Rattle.std.proofs.Math.Seq.{take-append_seam, drop-append_seam}
use Rattle.std.specs.Fmt.{decimal}
use Rattle.std.specs.Result.{is_err, is_ok}
use Rattle.psa_logic.specs.Products.{literal_number}
use Rattle.psa_logic.proofs.LiteralLemmas.{rank-literal, positive-literal}
use Rattle.psa_number.specs.Ends.{Ends}
use Rattle.psa_model.specs.declared.expanded.Expanded.{Expanded}
use Rattle.psa_model.specs.declared.ids.EventNumber.{EventNumber}
use Rattle.psa_model.specs.declared.product.Literal.{Literal}
use Rattle.psa_model.specs.declared.product.TheConstants.{MAX_ORDER}
use Rattle.psa_model.specs.Literals.{literals_of}
use Rattle.psa_model.specs.Names.{ranked_text}
use Rattle.psa_model.specs.Report.{bound_text, ends_text, literal_text, literals_text, product_text}
use Rattle.psa_report.specs.declared.line.Line.{Line}
use Rattle.psa_report.specs.declared.lines.KeptLine.{KeptLine}
use Rattle.psa_report.specs.Lines.{Naming, begun, ends_after, made, order_text, spaced_bound, spaced_literal, spaced_literals, IsComposed, IsExact, IsKept, IsMarked}
use Rattle.psa_report.specs.Pieces.{Writes}

-- the text of a literal: its sign, and the text of its event
literal-text : (expanded : Expanded) (ranks : List EventNumber) (literal : Literal)
    → literal_text expanded ranks (literal_number literal.rank literal.occurs) ≡ (if literal.occurs then [] else codes "~") ++ ranked_text expanded ranks literal.rank
literal-text expanded ranks literal = rw (positive-literal literal.rank literal.occurs, rank-literal literal.rank literal.occurs) refl

-- a literal behind a space
pub literal-in-parts : (expanded : Expanded) (ranks : List EventNumber) (literal : Literal)
    → (codes " " ++ (if literal.occurs then [] else codes "~")) ++ ranked_text expanded ranks literal.rank
    ≡ codes " " ++ literal_text expanded ranks (literal_number literal.rank literal.occurs)
literal-in-parts expanded ranks literal =
    append_assoc (codes " ") (if literal.occurs then [] else codes "~") (ranked_text expanded ranks literal.rank)
    ∙ ap (λ (text : List ℕ). codes " " ++ text) (sym (literal-text expanded ranks literal))

-- the literals from a place on
pub spaced-from : (naming : Naming) (literals : List Literal) (i : ℕ) (d : Literal) → i < length literals
    → spaced_literals naming (drop i literals)
    ≡ spaced_literal naming (literal_number (get_or literals i d).rank (get_or literals i d).occurs) ++ spaced_literals naming (drop (i + 1) literals)
spaced-from naming literals i d within = ap (spaced_literals naming) (drop_more literals i d within)

-- no literal is left
pub spaced-none : (naming : Naming) (literals : List Literal) (i : ℕ) → length literals ≤ i → spaced_literals naming (drop i literals) ≡ []
spaced-none naming literals i past = ap (spaced_literals naming) (drop_all i literals past)

-- some literals, each behind a space, are the literals of a line behind a space
pub spaced-joined : (naming : Naming) (literals : List Literal) → 0 < length literals
    → spaced_literals naming literals ≡ codes " " ++ literals_text naming.expanded naming.ranks (literals_of literals)
spaced-joined naming [] some = absurd (omega (arith, some))
spaced-joined naming (literal ∷ literals) some =
    append_assoc (codes " ") (literal_text naming.expanded naming.ranks (literal_number literal.rank literal.occurs)) (spaced_literals naming literals)

-- a product has as many literal numbers as literals
order-same : (literals : List Literal) → order_text (length literals) ≡ order_text (length (literals_of literals))
order-same literals = ap order_text (sym (length-map literals (λ (l : Literal). literal_number l.rank l.occurs)))

line-in-parts : (bound : Option Ends) (order literals : List ℕ)
    → (codes "- " ++ order) ++ (spaced_bound bound ++ ((codes " " ++ literals) ++ codes "\n")) ≡ codes "- " ++ order ++ bound_text bound ++ literals ++ codes "\n"
line-in-parts None order literals = grind (arith, common_steps)
line-in-parts (Some bound) order literals = some (ends_text bound)
  where
    some : (ends : List ℕ)
        → (codes "- " ++ order) ++ ((codes " " ++ ends) ++ ((codes " " ++ literals) ++ codes "\n")) ≡ codes "- " ++ order ++ (codes " " ++ ends ++ codes " ") ++ literals ++ codes "\n"
    some ends = grind (arith, common_steps)

-- the line of a product
pub product-in-parts : (expanded : Expanded) (ranks : List EventNumber) (bound : Option Ends) (literals : List Literal)
    → order_text (length literals) ++ (spaced_bound bound ++ ((codes " " ++ literals_text expanded ranks (literals_of literals)) ++ codes "\n"))
    ≡ product_text expanded ranks bound (literals_of literals)
product-in-parts expanded ranks bound literals =
    ap (λ (order : List ℕ). order ++ (spaced_bound bound ++ ((codes " " ++ literals_text expanded ranks (literals_of literals)) ++ codes "\n"))) (order-same literals)
    ∙ line-in-parts bound (decimal (length (literals_of literals))) (literals_text expanded ranks (literals_of literals))

module _ (naming : Naming) where
  -- the text of one literal more
  spaced-more : (literals : List Literal) (literal : Literal)
      → spaced_literals naming (literals ++ literal ∷ []) ≡ spaced_literals naming literals ++ spaced_literal naming (literal_number literal.rank literal.occurs)
  spaced-more [] literal = append-nil (spaced_literal naming (literal_number literal.rank literal.occurs))
  spaced-more (first ∷ literals) literal =
      ap (λ (text : List ℕ). spaced_literal naming (literal_number first.rank first.occurs) ++ text) (spaced-more literals literal)
      ∙ sym (append_assoc (spaced_literal naming (literal_number first.rank first.occurs)) (spaced_literals naming literals) (spaced_literal naming (literal_number literal.rank literal.occurs)))

  -- the ends of fewer literals
  ends-take : (k at : ℕ) (literals : List Literal) → take k (ends_after naming at literals) ≡ ends_after naming at (take k literals)
  ends-take zero at literals = refl
  ends-take (suc k) at [] = refl
  ends-take (suc k) at (literal ∷ literals) =
      let end : ℕ = at + length (spaced_literal naming (literal_number literal.rank literal.occurs)) in
      ap (λ (ends : List ℕ). end ∷ ends) (ends-take k end literals)

  -- the ends of one literal more
  ends-more : (at : ℕ) (literals : List Literal) (literal : Literal)
      → ends_after naming at (literals ++ literal ∷ []) ≡ ends_after naming at literals ++ (at + length (spaced_literals naming (literals ++ literal ∷ []))) ∷ []
  ends-more at [] literal = ap (λ (text : List ℕ). (at + length text) ∷ []) (sym (append-nil (spaced_literal naming (literal_number literal.rank literal.occurs))))
  ends-more at (first ∷ literals) literal =
      let text : List ℕ = spaced_literal naming (literal_number first.rank first.occurs) in
      let more : List ℕ = spaced_literals naming (literals ++ literal ∷ []) in
      let sum : (at + length text) + length more ≡ at + length (text ++ more) = omega (arith, length-append text more) in
      ap (λ (ends : List ℕ). (at + length text) ∷ ends)
      (ends-more (at + length text) literals literal
      ∙ ap (λ (n : ℕ). ends_after naming (at + length text) literals ++ n ∷ []) sum)

  -- the last of them is where all literals end
  ends-last : (k at d : ℕ) (literals : List Literal) → length literals ≡ suc k → get_or (ends_after naming at literals) k d ≡ at + length (spaced_literals naming literals)
  ends-last k at d [] size = absurd (omega (arith, size))
  ends-last zero at d (literal ∷ []) size = ap (λ (text : List ℕ). at + length text) (sym (append-nil (spaced_literal naming (literal_number literal.rank literal.occurs))))
  ends-last zero at d (literal ∷ second ∷ literals) size = absurd (omega (arith, size))
  ends-last (suc k) at d (literal ∷ literals) size =
      let text : List ℕ = spaced_literal naming (literal_number literal.rank literal.occurs) in
      let more : List ℕ = spaced_literals naming literals in
      ends-last k (at + length text) d literals (omega (arith, size))
      ∙ omega (arith, length-append text more)

  -- where the last literal that counts ends, all ends that the line keeps
  pub made-end : (kept : KeptLine) → IsKept naming kept → (k : ℕ) → kept.count ≡ suc k → (d : ℕ) → get_or kept.ends k d ≡ length (made naming kept)
  made-end kept is_kept k e d =
      let marked = is_kept.marked in
      let count = marked.count in
      let size : length (take kept.count kept.literals) ≡ suc k =
      length-take-le kept.count kept.literals (omega (arith, count, marked.many_literals)) ∙ e in
      let last : get_or kept.ends k d ≡ kept.start + length (spaced_literals naming (take kept.count kept.literals)) =
      sym (get_or-take kept.count kept.ends k d (omega (arith, e)))
      ∙ ap (λ (ends : List ℕ). get_or ends k d) marked.ends
      ∙ ends-last k kept.start d (take kept.count kept.literals) size in
      let both : length (made naming kept) ≡ length (begun kept.order) + length (spaced_literals naming (take kept.count kept.literals)) =
      length-append (begun kept.order) (spaced_literals naming (take kept.count kept.literals)) in
      omega (arith, last, both, marked.start)

  -- no literal counts
  pub made-start : (kept : KeptLine) → IsKept naming kept → kept.count ≡ 0 → kept.start ≡ length (made naming kept)
  made-start kept is_kept none =
      is_kept.marked.start
      ∙ ap length (sym (append-nil (begun kept.order)))
      ∙ ap (λ (n : ℕ). length (begun kept.order ++ spaced_literals naming (take n kept.literals))) (sym none)

  -- fewer literals count
  pub kept-fewer : (kept : KeptLine) → IsKept naming kept → (n : ℕ) → n ≤ kept.count → IsKept naming (record kept { count = n })
  kept-fewer kept is_kept n fewer =
      let marked = is_kept.marked in
      let count = marked.count in
      let all : List Literal = take kept.count kept.literals in
      let parts : all ≡ take n kept.literals ++ drop n all =
      sym (take-append-drop n all) ∙ ap (λ (some : List Literal). some ++ drop n all) (take-take n kept.count kept.literals fewer) in
      record {
        marked = record {
          start = marked.start;
          count = omega (arith, count, fewer);
          many_literals = marked.many_literals;
          many_ends = marked.many_ends;
          ends =
              sym (take-take n kept.count kept.ends fewer) ∙ ap (take n) marked.ends ∙ ends-take n kept.start all
              ∙ ap (ends_after naming kept.start) (take-take n kept.count kept.literals fewer);
        };
        rest = spaced_literals naming (drop n all) ++ is_kept.rest;
        text =
            is_kept.text
            ∙ ap (λ (text : List ℕ). (begun kept.order ++ text) ++ is_kept.rest) (ap (spaced_literals naming) parts ∙ spaced-append (take n kept.literals) (drop n all))
            ∙ regrouped (begun kept.order) (spaced_literals naming (take n kept.literals)) (spaced_literals naming (drop n all)) is_kept.rest;
      }
    where
      spaced-append : (some others : List Literal) → spaced_literals naming (some ++ others) ≡ spaced_literals naming some ++ spaced_literals naming others
      spaced-append [] others = refl
      spaced-append (literal ∷ some) others =
          ap (λ (text : List ℕ). spaced_literal naming (literal_number literal.rank literal.occurs) ++ text) (spaced-append some others)
          ∙ sym (append_assoc (spaced_literal naming (literal_number literal.rank literal.occurs)) (spaced_literals naming some) (spaced_literals naming others))

      regrouped : (a b c e : List ℕ) → (a ++ (b ++ c)) ++ e ≡ (a ++ b) ++ (c ++ e)
      regrouped a b c e = grind (arith, common_steps)

  -- the marks say nothing of the line's bytes
  marked-line : (kept : KeptLine) → IsMarked naming kept → (line : Line) → IsMarked naming (record kept { line = line })
  marked-line kept marked line = record {
    start = marked.start;
    count = marked.count;
    many_literals = marked.many_literals;
    many_ends = marked.many_ends;
    ends = marked.ends;
  }

  -- a line that is cut where what it keeps ends
  pub exact-cut : (kept : KeptLine) → IsKept naming kept → (line : Line) → line.text.items ≡ take (length (made naming kept)) kept.line.text.items
      → IsExact naming (record kept { line = line })
  exact-cut kept is_kept line e = record {
    marked = marked-line kept is_kept.marked line;
    text = e ∙ ap (take (length (made naming kept))) is_kept.text ∙ take-append_seam (made naming kept) is_kept.rest;
  }

  -- one literal more
  pub exact-push : (kept : KeptLine) → IsExact naming kept → kept.count < MAX_ORDER → (literal : Literal) (line : Line) (end : ℕ)
      → line.text.items ≡ kept.line.text.items ++ spaced_literal naming (literal_number literal.rank literal.occurs) → end ≡ length line.text.items
      → IsExact naming (record kept { line = line; literals = set kept.literals kept.count literal; ends = set kept.ends kept.count end; count = kept.count + 1 })
  exact-push kept exact room literal line end wrote is_end =
      let marked = exact.marked in
      let some : List Literal = take kept.count kept.literals in
      let longer : take (kept.count + 1) (set kept.literals kept.count literal) ≡ some ++ literal ∷ [] =
      take_more_set kept.literals kept.count literal (omega (arith, room, marked.many_literals)) in
      let text : line.text.items ≡ begun kept.order ++ spaced_literals naming (some ++ literal ∷ []) =
      wrote
      ∙ ap (λ (text : List ℕ). text ++ spaced_literal naming (literal_number literal.rank literal.occurs)) exact.text
      ∙ append_assoc (begun kept.order) (spaced_literals naming some) (spaced_literal naming (literal_number literal.rank literal.occurs))
      ∙ ap (λ (text : List ℕ). begun kept.order ++ text) (sym (spaced-more some literal)) in
      let both : length (begun kept.order ++ spaced_literals naming (some ++ literal ∷ [])) ≡ length (begun kept.order) + length (spaced_literals naming (some ++ literal ∷ [])) =
      length-append (begun kept.order) (spaced_literals naming (some ++ literal ∷ [])) in
      let size : length line.text.items ≡ length (begun kept.order ++ spaced_literals naming (some ++ literal ∷ [])) = ap length text in
      let at : end ≡ kept.start + length (spaced_literals naming (some ++ literal ∷ [])) = omega (arith, is_end, size, both, marked.start) in
      record {
        marked = record {
          start = marked.start;
          count = omega (arith, room);
          many_literals = length-set kept.literals kept.count literal ∙ marked.many_literals;
          many_ends = length-set kept.ends kept.count end ∙ marked.many_ends;
          ends =
              take_more_set kept.ends kept.count end (omega (arith, room, marked.many_ends))
              ∙ ap₂ (λ (ends : List ℕ) (last : ℕ). ends ++ last ∷ []) marked.ends at
              ∙ sym (ends-more kept.start some literal)
              ∙ ap (ends_after naming kept.start) (sym longer);
        };
        text = text ∙ ap (λ (literals : List Literal). begun kept.order ++ spaced_literals naming literals) (sym longer);
      }

  -- the same, where the text of the literal was written
  pub exact-written : {E : Type 0} (kept : KeptLine) → IsExact naming kept → kept.count < MAX_ORDER → (literal : Literal) (line : Line) (end a b : ℕ) (result : Result (Unit {0}) E)
      → Writes (Some kept.line.text.items) (Some line.text.items) a b (spaced_literal naming (literal_number literal.rank literal.occurs)) result → is_err result ≡ false → end ≡ length line.text.items
      → IsExact naming (record kept { line = line; literals = set kept.literals kept.count literal; ends = set kept.ends kept.count end; count = kept.count + 1 })
  exact-written kept exact room literal line end a b (Ok u) wrote done is_end = exact-push kept exact room literal line end wrote.whole is_end
  exact-written kept exact room literal line end a b (Err e) wrote done is_end = absurd (cc)

  -- a line that is what it keeps begins with it
  pub kept-exact : (kept : KeptLine) → IsExact naming kept → IsKept naming kept
  kept-exact kept exact = record { marked = exact.marked; rest = []; text = exact.text ∙ sym (append-nil (made naming kept)) }

  -- more was appended to a line, or a prefix of it
  pub kept-more : (kept : KeptLine) → IsExact naming kept → (line : Line) (rest : List ℕ) → line.text.items ≡ kept.line.text.items ++ rest → IsKept naming (record kept { line = line })
  kept-more kept exact line rest e = record {
    marked = marked-line kept exact.marked line;
    rest = rest;
    text = e ∙ ap (λ (text : List ℕ). text ++ rest) exact.text;
  }

  -- a line without literals
  pub kept-begun : (kept : KeptLine) → kept.start ≡ length (begun kept.order) → kept.count ≡ 0 → length kept.literals ≡ MAX_ORDER → length kept.ends ≡ MAX_ORDER
      → (rest : List ℕ) → kept.line.text.items ≡ begun kept.order ++ rest → IsKept naming kept
  kept-begun kept start none many_literals many_ends rest text = record {
    marked = record {
      start = start;
      count = omega (arith, none);
      many_literals = many_literals;
      many_ends = many_ends;
      ends = ap (λ (n : ℕ). take n kept.ends) none ∙ ap (λ (n : ℕ). ends_after naming kept.start (take n kept.literals)) (sym none);
    };
    rest = rest;
    text =
        text
        ∙ ap (λ (text : List ℕ). text ++ rest) (sym (append-nil (begun kept.order)))
        ∙ ap (λ (n : ℕ). (begun kept.order ++ spaced_literals naming (take n kept.literals)) ++ rest) (sym none);
  }

  -- the line of all literals and the end of the line
  pub composed : (kept : KeptLine) → IsExact naming kept → (literals : List Literal) → kept.order ≡ length literals → take kept.count kept.literals ≡ literals → 0 < length literals
      → (line : Line) → line.text.items ≡ kept.line.text.items ++ codes "\n" → IsComposed naming literals (record kept { line = line })
  composed kept exact literals order all some line e =
      let begin : begun kept.order ≡ order_text (length literals) = ap begun order ∙ begun-some (length literals) some in
      record {
        start = exact.marked.start ∙ ap length begin;
        text =
            e
            ∙ ap (λ (text : List ℕ). text ++ codes "\n") (exact.text ∙ ap₂ (λ (a : List ℕ) (ls : List Literal). a ++ spaced_literals naming ls) begin all)
            ∙ append_assoc (order_text (length literals)) (spaced_literals naming literals) (codes "\n");
        some = some;
      }
    where
      begun-some : (n : ℕ) → 0 < n → begun n ≡ order_text n
      begun-some zero some = absurd (omega (arith, some))
      begun-some (suc n) some = refl

  -- the same, where the end of the line was written
  pub composed-written : {E : Type 0} (kept : KeptLine) → IsExact naming kept → (literals : List Literal) → kept.order ≡ length literals → take kept.count kept.literals ≡ literals → 0 < length literals
      → (line : Line) (a b : ℕ) (result : Result (Unit {0}) E) → Writes (Some kept.line.text.items) (Some line.text.items) a b (codes "\n") result → is_ok result ≡ true
      → IsComposed naming literals (record kept { line = line })
  composed-written kept exact literals order all some line a b (Ok u) wrote done = composed kept exact literals order all some line wrote.whole
  composed-written kept exact literals order all some line a b (Err e) wrote done = absurd (cc)

  -- its parts before and behind the bound are the line of the product
  pub composed-parts : (kept : KeptLine) (literals : List Literal) → IsComposed naming literals kept → (bound : Option Ends)
      → take kept.start kept.line.text.items ++ (spaced_bound bound ++ drop kept.start kept.line.text.items) ≡ product_text naming.expanded naming.ranks bound (literals_of literals)
  composed-parts kept literals composed bound =
      let order : List ℕ = order_text (length literals) in
      let behind : List ℕ = spaced_literals naming literals ++ codes "\n" in
      let front : take kept.start kept.line.text.items ≡ order =
      ap₂ (λ (n : ℕ) (text : List ℕ). take n text) composed.start composed.text ∙ take-append_seam order behind in
      let back : drop kept.start kept.line.text.items ≡ behind =
      ap₂ (λ (n : ℕ) (text : List ℕ). drop n text) composed.start composed.text ∙ drop-append_seam order behind in
      ap₂ (λ (a b : List ℕ). a ++ (spaced_bound bound ++ b)) front back
      ∙ ap (λ (text : List ℕ). order ++ (spaced_bound bound ++ (text ++ codes "\n"))) (spaced-joined naming literals composed.some)
      ∙ product-in-parts naming.expanded naming.ranks bound literals
