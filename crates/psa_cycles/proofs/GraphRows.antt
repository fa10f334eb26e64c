-- The rows and the nestings of the graph, one definition after another.
use Rattle.std.proofs.Common.{◌≡◌, ◌≤◌, ◌<◌, ◌+◌, ◌-◌, ℕ, max, List, [], ◌∷◌, ◌++◌, length, get_or, take, drop, map, sym, ap, ◌∙◌, arith}
use Rattle.std.proofs.lemmas.List.{append-nil, length-append, length-map, get_or-map, map_more, take_more, drop_at}
use Rattle.std.proofs.lemmas.List.Concat.{flat_map-append}
use Rattle.std.specs.Prelude.{flat_map, if◌then◌else◌}
use Rattle.psa_chains.specs.declared.reference.Reference.{Reference as Step}
use Rattle.psa_model.specs.declared.draft.DraftDefinition.{DraftDefinition}
use Rattle.psa_names.specs.declared.found.Sense.{Sense}
use Rattle.psa_names.specs.Outlines.{Entry, Entries, joined, entry_of}
use Rattle.psa_names.specs.Chains.{is_chained}
use Rattle.psa_names.specs.Found.{meaning_of_sense, reference_meanings}
use Rattle.psa_cycles.specs.declared.levels.Levels.{Levels}
use Rattle.psa_cycles.specs.Levels.{deepest_in_all, elements_of, with_outlines}
use Rattle.psa_cycles.specs.Graphs.{target_of, steps, row_by, nesting_by}
use Rattle.psa_cycles.proofs.ReferenceRows.{levels_of, own-targets, senses-enough}

module _ (definitions : List DraftDefinition) (senses : List Sense) (i : ℕ) (item : DraftDefinition) (before after : Levels) (first last : ℕ)
    (found : map (meaning_of_sense (map entry_of definitions)) senses ≡ reference_meanings (map entry_of definitions))
    (low : i < length definitions) (is : item ≡ get_or definitions i item)
    (levels : before.references ≡ flat_map levels_of (take i (map entry_of definitions)))
    (from : first ≡ length before.references)
    (pushed : after ≡ with_outlines 0 (joined (elements_of (entry_of item))) (record { references = before.references; deepest = 0 }))
    (upto : last ≡ length after.references) where
  abbrev entries : Entries
  entries = map entry_of definitions

  abbrev one : Entry
  one = entry_of item

  one-is : one ≡ get_or entries i one
  one-is = ap entry_of is ∙ sym (get_or-map entry_of definitions i item one low)

  inside : i < length entries
  inside = omega (arith, length-map definitions entry_of)

  levels-after : after.references ≡ before.references ++ levels_of one
  levels-after = ap (λ (s : Levels). s.references) pushed

  start : first ≡ length (flat_map levels_of (take i entries))
  start = from ∙ ap length levels

  size : last ≡ first + length (levels_of one)
  size = upto ∙ ap length levels-after ∙ length-append before.references (levels_of one) ∙ ap (λ n. n + length (levels_of one)) (sym from)

  -- the references of one more definition are among those that were found
  pub enough : last ≤ length senses
  enough = senses-enough entries senses i one first last found inside one-is start size

  own-levels : drop first after.references ≡ levels_of one
  own-levels = ap (drop first) levels-after ∙ drop_at before.references (levels_of one) first (sym from)

  row-is : (own : List ℕ) (slice : List Sense) (row : List Step) → own ≡ drop first after.references → slice ≡ take (last - first) (drop first senses) → row ≡ (if is_chained item.kind then steps own (map (target_of entries) slice) else []) → row ≡ row_by entries one
  row-is own slice row p q made =
      made
      ∙ ap (λ rs. if is_chained item.kind then rs else [])
      (ap (λ ls. steps ls (map (target_of entries) slice)) (p ∙ own-levels)
      ∙ ap (steps (levels_of one)) (ap (map (target_of entries)) q ∙ own-targets entries senses i one first last found inside one-is start size))

  -- the rows up to one more definition
  pub rows-more : (own : List ℕ) (slice : List Sense) (row : List Step) (rows new : List (List Step)) → own ≡ drop first after.references → slice ≡ take (last - first) (drop first senses) → row ≡ (if is_chained item.kind then steps own (map (target_of entries) slice) else []) → rows ≡ map (row_by entries) (take i entries) → new ≡ rows ++ row ∷ [] → new ≡ map (row_by entries) (take (i + 1) entries)
  rows-more own slice row rows new p q made so_far pushed_row =
      pushed_row ∙ ap (λ rs. rs ++ row ∷ []) so_far ∙ ap (λ r. map (row_by entries) (take i entries) ++ r ∷ []) (row-is own slice row p q made)
      ∙ sym (map_more (row_by entries) entries i one inside ∙ ap (λ e. map (row_by entries) (take i entries) ++ row_by entries e ∷ []) (sym one-is))

  -- the nestings up to one more definition
  pub nested-more : (nesting : ℕ) (nested new : List ℕ) → nesting ≡ (if is_chained item.kind then after.deepest else 0) → nested ≡ map nesting_by (take i entries) → new ≡ nested ++ nesting ∷ [] → new ≡ map nesting_by (take (i + 1) entries)
  nested-more nesting nested new made so_far pushed_nesting =
      pushed_nesting ∙ ap (λ ns. ns ++ nesting ∷ []) so_far
      ∙ ap (λ n. map nesting_by (take i entries) ++ n ∷ []) (made ∙ ap (λ d. if is_chained item.kind then d else 0) deepest)
      ∙ sym (map_more nesting_by entries i one inside ∙ ap (λ e. map nesting_by (take i entries) ++ nesting_by e ∷ []) (sym one-is))
    where
      deepest : after.deepest ≡ deepest_in_all 0 (joined (elements_of one))
      deepest = ap (λ (s : Levels). s.deepest) pushed ∙ none-deeper (deepest_in_all 0 (joined (elements_of one)))
        where
          none-deeper : (d : ℕ) → max 0 d ≡ d
          none-deeper d = omega arith

  -- the levels up to one more definition
  pub levels-more : after.references ≡ flat_map levels_of (take (i + 1) entries)
  levels-more =
      levels-after ∙ ap (λ ls. ls ++ levels_of one) levels
      ∙ sym (ap (flat_map levels_of) (take_more entries i one inside ∙ ap (λ e. take i entries ++ e ∷ []) (sym one-is))
      ∙ flat_map-append levels_of (take i entries) (one ∷ []) ∙ ap (λ ls. flat_map levels_of (take i entries) ++ ls) (append-nil (levels_of one)))
