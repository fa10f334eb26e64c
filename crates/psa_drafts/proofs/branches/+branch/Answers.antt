use Rattle.std.proofs.Common.{◌≡◌, ◌+◌, ◌++◌, arith, rules, Option, Some, None, List, [], ◌∷◌, codes, refl, ap, sym, ◌∙◌}
use Rattle.std.proofs.Common.{subst, append-nil}
use Rattle.psa_elements.specs.DraftReading as reading
use Rattle.std.specs.List.{filter_map}
use Rattle.std.specs.Option.{option_or, option_to_list}
use Rattle.psa_text.specs.declared.tree.Element.TheViews as q
use Rattle.psa_draft_parts.specs.Sayings.{reading_among, reading_as, start_tag}
use Rattle.psa_draft_parts.specs.Starts.{around_of}
use Rattle.psa_draft_parts.proofs.Passing.{not-so, next-fits, child-readable, counted-more, counted-all, picked-more, first-more, inside-all}
use Rattle.std.proofs.Common.{OnOk}
use Rattle.psa_draft_parts.proofs.Passing.{always-ok, or-none, is-so}
use Rattle.psa_model.specs.PathNames.{Text}
use Rattle.psa_model.specs.declared.ids.Place.{Place}
use Rattle.psa_model.specs.declared.draft.DraftBranch.{DraftBranch}
use Rattle.psa_model.specs.declared.draft.DraftForkPath.{roll-DraftForkPath}
use Rattle.psa_draft_parts.proofs.Readings.{among-known, among-first, among-others, one-row, no-row}
use Rattle.psa_elements.specs.ElementTable.{instructions, ends, path}
use Rattle.psa_elements.specs.DraftReading.{Reading, instruction_of, instructions_in, end_of, path_of, branch_in}
use Rattle.psa_model.specs.declared.draft.DraftBranchEnd.{DraftBranchEnd}
use Rattle.psa_model.specs.declared.draft.DraftBranchEnd.TheVariants as ending
use Rattle.psa_model.specs.declared.draft.DraftForkPath.{DraftForkPath}
use Rattle.psa_model.specs.declared.draft.DraftInstruction.{DraftInstruction}
use Rattle.psa_model.specs.declared.draft.DraftReference.{DraftReference}
use Rattle.psa_draft_parts.specs.Rows.{row_of_instruction, row_of_end}
use Rattle.psa_draft_parts.specs.declared.rows.EndRow.{EndRow}
use Rattle.psa_draft_parts.proofs.InstructionSayings as says
use Rattle.psa_drafts.proofs.branches.+branch.Goals as goal

pub branch-overflow_add-reader : goal.branch-overflow_add-reader
branch-overflow_add-reader t c =
    omega (arith, next-fits c.args.reader.now.number c.args.element.now c.requires)

pub branch-branch_part-requires : goal.branch-branch_part-requires
branch-branch_part-requires t c = (
  search (rules, q.the_lemmas),
  child-readable c.args.reader.now.number c.args.element.now
      c.as_slice-children.result.now c.loop-child.child-index c.child-item.result c.loop-child.reader.number
      c.requires c.as_slice-children.ensures c.loop-child.invariant.counted c.loop-child-test.true
      c.child-item.is,
)

pub branch-loop-child-preserved : goal.branch-loop-child-preserved
branch-loop-child-preserved t c =
    record {
      counted = counted-more (c.args.reader.now.number + 1) c.as_slice-children.result.now c.loop-child.child-index
          c.child-item.result c.loop-child.reader.number c.branch_part.new.reader.number
          c.loop-child.invariant.counted c.loop-child-test.true c.child-item.is
          c.in_ok-branch_part.ensures.counted;
      said = c.in_ok-branch_part.ensures.said ∙ picked-more instruction_of (instructions ++ ends) (around_of
          c.args.around.now) (c.args.reader.now.number + 1) c.as_slice-children.result.now
          c.loop-child.child-index c.child-item.result c.loop-child.reader.number c.loop-child.instructions
          (instruction_of (reading_among (instructions ++ ends) (around_of c.args.around.now)
          c.loop-child.reader.number c.child-item.result)) c.loop-child.invariant.counted
          c.loop-child-test.true c.child-item.is c.loop-child.invariant.said refl;
      ended = c.in_ok-branch_part.ensures.ended ∙ first-more end_of (instructions ++ ends) (around_of
          c.args.around.now) (c.args.reader.now.number + 1) c.as_slice-children.result.now
          c.loop-child.child-index c.child-item.result c.loop-child.reader.number c.loop-child.end (end_of
          (reading_among (instructions ++ ends) (around_of c.args.around.now) c.loop-child.reader.number
          c.child-item.result)) c.loop-child.invariant.counted c.loop-child-test.true c.child-item.is
          c.loop-child.invariant.ended refl;
    }

pub branch-returns-in-Some-clause-counted : goal.branch-returns-in-Some-clause-counted
branch-returns-in-Some-clause-counted t c =
    counted-all c.args.reader.now.number c.args.element.now c.as_slice-children.result.now c.loop-child.child-index
    c.loop-child.reader.number c.as_slice-children.ensures c.loop-child-test.false
    c.loop-child.invariant.counted

pub fork_paths-overflow_add-reader : goal.fork_paths-overflow_add-reader
fork_paths-overflow_add-reader t c =
    omega (arith, next-fits c.args.reader.now.number c.args.element.now c.requires)

pub fork_paths-fork_path-requires : goal.fork_paths-fork_path-requires
fork_paths-fork_path-requires t c = (
  search (rules, q.the_lemmas),
  child-readable c.args.reader.now.number c.args.element.now
      c.as_slice-children.result.now c.loop-child.child-index c.child-item.result c.loop-child.reader.number
      c.requires c.as_slice-children.ensures c.loop-child.invariant.counted c.loop-child-test.true
      c.child-item.is,
)

pub fork_paths-loop-child-preserved : goal.fork_paths-loop-child-preserved
fork_paths-loop-child-preserved t c =
    record {
      counted = counted-more (c.args.reader.now.number + 1) c.as_slice-children.result.now c.loop-child.child-index
          c.child-item.result c.loop-child.reader.number c.fork_path.new.reader.number
          c.loop-child.invariant.counted c.loop-child-test.true c.child-item.is c.in_ok-found.ensures.counted;
      said = c.in_ok-push_found.ensures ∙ picked-more path_of (path ∷ []) (around_of c.args.around.now)
          (c.args.reader.now.number + 1) c.as_slice-children.result.now c.loop-child.child-index
          c.child-item.result c.loop-child.reader.number c.loop-child.paths c.in_ok-found.found
          c.loop-child.invariant.counted c.loop-child-test.true c.child-item.is c.loop-child.invariant.said
          c.in_ok-found.ensures.said;
    }

pub fork_paths-returns-clause-counted : goal.fork_paths-returns-clause-counted
fork_paths-returns-clause-counted t c =
    counted-all c.args.reader.now.number c.args.element.now c.as_slice-children.result.now c.loop-child.child-index
    c.loop-child.reader.number c.as_slice-children.ensures c.loop-child-test.false
    c.loop-child.invariant.counted

pub fork_paths-returns-clause-said : goal.fork_paths-returns-clause-said
fork_paths-returns-clause-said t c =
    c.loop-child.invariant.said ∙ ap (λ (rs : List Reading). filter_map path_of rs) (inside-all (path ∷ [])
    (around_of c.args.around.now) c.args.reader.now.number c.args.element.now
    c.as_slice-children.result.now c.loop-child.child-index c.as_slice-children.ensures
    c.loop-child-test.false)

pub branch-returns-in_ok-reference-in-None-clause-counted : goal.branch-returns-in_ok-reference-in-None-clause-counted
branch-returns-in_ok-reference-in-None-clause-counted t c =
    counted-all c.args.reader.now.number c.args.element.now c.as_slice-children.result.now c.loop-child.child-index
    c.loop-child.reader.number c.as_slice-children.ensures c.loop-child-test.false
    c.loop-child.invariant.counted

pub branch_end-returns-in_ok-reference_by-in-Fork-clause-said :
    goal.branch_end-returns-in_ok-reference_by-in-Fork-clause-said
branch_end-returns-in_ok-reference_by-in-Fork-clause-said t c =
    ap (λ (r : DraftReference). Some (ending.Fork r c.in_ok-paths.paths)) c.in_ok-reference_by-in-Fork.ensures ∙ ap
    (λ (ps : List DraftForkPath). Some (ending.Fork (reading.reference_by (codes "functional-event")
    (start_tag (around_of c.args.around.now) c.args.reader.now.number c.args.element.now)) ps))
    c.in_ok-paths.ensures.said ∙ sym (says.says-fork (around_of c.args.around.now) c.args.reader.now.number
    c.args.element.now) ∙ ap (λ (r : EndRow). end_of (reading_as (row_of_end r) (around_of
    c.args.around.now) c.args.reader.now.number c.args.element.now)) (sym c.in-Fork.is)

pub branch_end-returns-in_ok-reference-in-Sequence-clause-said :
    goal.branch_end-returns-in_ok-reference-in-Sequence-clause-said
branch_end-returns-in_ok-reference-in-Sequence-clause-said t c =
    ap (λ (r : DraftReference). Some (ending.Sequence r)) c.in_ok-reference-in-Sequence.ensures ∙ sym
    (says.says-sequence (around_of c.args.around.now) c.args.reader.now.number c.args.element.now) ∙ ap (λ
    (r : EndRow). end_of (reading_as (row_of_end r) (around_of c.args.around.now) c.args.reader.now.number
    c.args.element.now)) (sym c.in-Sequence.is)

pub branch_end-returns-in_ok-reference-in-Branch-clause-said :
    goal.branch_end-returns-in_ok-reference-in-Branch-clause-said
branch_end-returns-in_ok-reference-in-Branch-clause-said t c =
    ap (λ (r : DraftReference). Some (ending.Branch r)) c.in_ok-reference-in-Branch.ensures ∙ sym (says.says-branch
    (around_of c.args.around.now) c.args.reader.now.number c.args.element.now) ∙ ap (λ (r : EndRow). end_of
    (reading_as (row_of_end r) (around_of c.args.around.now) c.args.reader.now.number c.args.element.now))
    (sym c.in-Branch.is)

pub branch_part-returns-in-Some-clause-said : goal.branch_part-returns-in-Some-clause-said
branch_part-returns-in-Some-clause-said t c =
    let P : Option DraftInstruction → Type 0 = λ (o : Option DraftInstruction). OnOk c.push_found.result
    (c.push_found.new.all ≡ c.args.instructions.now ++ option_to_list o) in
    subst P (c.in_ok-found.ensures.said ∙ sym (ap instruction_of (among-first instructions ends (around_of
    c.args.around.now) c.args.reader.now.number c.args.element.now c.as_str-tag.result.now
    (row_of_instruction c.in-Some.row) c.as_str-tag.ensures c.in-Some.ensures))) c.push_found.ensures

pub branch_part-returns-in-Some-clause-ended : goal.branch_part-returns-in-Some-clause-ended
branch_part-returns-in-Some-clause-ended t c =
    always-ok c.push_found.result (sym (or-none c.args.end.now) ∙ ap (λ (o : Option DraftBranchEnd). option_or
    c.args.end.now o) (sym (ap end_of (among-first instructions ends (around_of c.args.around.now)
    c.args.reader.now.number c.args.element.now c.as_str-tag.result.now (row_of_instruction c.in-Some.row)
    c.as_str-tag.ensures c.in-Some.ensures) ∙ says.no-end c.in-Some.row (around_of c.args.around.now)
    c.args.reader.now.number c.args.element.now)))

pub branch_part-returns-in-Some-end_row-clause-said : goal.branch_part-returns-in-Some-end_row-clause-said
branch_part-returns-in-Some-end_row-clause-said t c =
    sym (append-nil c.args.instructions.now) ∙ ap (λ (o : Option DraftInstruction). c.args.instructions.now ++
    option_to_list o) (sym (ap instruction_of (among-others instructions ends (around_of c.args.around.now)
    c.args.reader.now.number c.args.element.now c.as_str-tag.result.now (Some (row_of_end
    c.in-Some-end_row.row)) c.as_str-tag.ensures c.in_default.ensures (c.in-Some-end_row.ensures)) ∙
    says.end-no-instruction c.in-Some-end_row.row (around_of c.args.around.now) c.args.reader.now.number
    c.args.element.now))

pub branch_part-returns-in-Some-end_row-clause-ended : goal.branch_part-returns-in-Some-end_row-clause-ended
branch_part-returns-in-Some-end_row-clause-ended t c =
    c.keep_first.ensures ∙ ap (λ (o : Option DraftBranchEnd). option_or c.args.end.now o)
    (c.in_ok-found-2.ensures.said ∙ sym (ap end_of (among-others instructions ends (around_of
    c.args.around.now) c.args.reader.now.number c.args.element.now c.as_str-tag.result.now (Some
    (row_of_end c.in-Some-end_row.row)) c.as_str-tag.ensures c.in_default.ensures
    (c.in-Some-end_row.ensures))))

pub branch_part-returns-clause-said : goal.branch_part-returns-clause-said
branch_part-returns-clause-said t c =
    sym (append-nil c.args.instructions.now) ∙ ap (λ (o : Option DraftInstruction). c.args.instructions.now ++
    option_to_list o) (sym (ap instruction_of (among-others instructions ends (around_of c.args.around.now)
    c.args.reader.now.number c.args.element.now c.as_str-tag.result.now None c.as_str-tag.ensures
    c.in_default.ensures (c.in_default-end_row.ensures))))

pub branch_part-returns-clause-ended : goal.branch_part-returns-clause-ended
branch_part-returns-clause-ended t c =
    sym (or-none c.args.end.now) ∙ ap (λ (o : Option DraftBranchEnd). option_or c.args.end.now o) (sym (ap end_of
    (among-others instructions ends (around_of c.args.around.now) c.args.reader.now.number
    c.args.element.now c.as_str-tag.result.now None c.as_str-tag.ensures c.in_default.ensures
    (c.in_default-end_row.ensures))))

pub fork_path-returns-clause-said : goal.fork_path-returns-clause-said
fork_path-returns-clause-said t c =
    let start : reading.StartTag = start_tag (around_of c.args.around.now) c.args.reader.now.number
    c.args.element.now in
    ap (λ (s : Text). Some (roll-DraftForkPath (record {
      state = s;
      place = c.place_of.result;
      tag =
          c.args.reader.now.number;
      branch = c.in_ok-branch.field-0;
    }))) (c.in_ok-from_str.ensures ∙
    c.text_at.ensures)
    ∙ ap (λ (p : Place). Some (roll-DraftForkPath (record {
      state = reading.text_in start (codes "state");
      place =
          p;
      tag = c.args.reader.now.number;
      branch = c.in_ok-branch.field-0;
    }))) c.place_of.ensures
    ∙ ap (λ (b : DraftBranch). Some (roll-DraftForkPath (record {
      state = reading.text_in start (codes "state");
      place = reading.place_of start;
      tag = c.args.reader.now.number;
      branch = b;
    })))
    c.in_ok-branch.ensures.said
    ∙ sym (says.says-path (around_of c.args.around.now) c.args.reader.now.number c.args.element.now)
    ∙ sym (ap path_of (among-known (path ∷ []) (around_of c.args.around.now) c.args.reader.now.number
    c.args.element.now c.as_str.result.now (Some path) c.as_str.ensures (one-row path c.as_str.result.now
    (is-so c.ne.result _ c.ne.ensures c.if-ne.false))))

pub fork_path-returns-then-ne-clause-said : goal.fork_path-returns-then-ne-clause-said
fork_path-returns-then-ne-clause-said t c =
    ap path_of (sym (among-known (path ∷ []) (around_of c.args.around.now) c.args.reader.now.number
    c.args.element.now c.as_str.result.now None c.as_str.ensures (no-row path c.as_str.result.now (not-so
    c.ne.result _ c.ne.ensures c.if-ne.true))))
