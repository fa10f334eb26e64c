use Rattle.std.proofs.Common.{Some, length, ap, ◌∙◌, arith}
use Rattle.psa_cycles.proofs.ChainFaults.{stands, few, as-many, cycle-place, deep-place, answered-none, answered-cycle, answered-deep}
use Rattle.psa_cycles.proofs.check.check_chains.Goals as goal

pub chain_fault-requires-clause-stand : goal.chain_fault-requires-clause-stand
chain_fault-requires-clause-stand c = stands c.args.draft.now c.as_slice.result.now (c.as_slice.ensures ∙ c.in_ok-graph.ensures.rows)

pub returns-in-None-clause-ok : goal.returns-in-None-clause-ok
returns-in-None-clause-ok c =
    answered-none c.args.draft.now c.from-limit.result c.as_slice.result.now c.as_slice-2.result.now c.in_ok-chain_fault.field-0 c.requires.draft c.requires.names
    (record { limit_is = c.from-limit.ensures; rows_are = c.as_slice.ensures ∙ c.in_ok-graph.ensures.rows; nested_are = c.as_slice-2.ensures ∙ c.in_ok-graph.ensures.nested })
    c.in-None.is c.in_ok-chain_fault.ensures

pub returns-in-Some-Cycle-clause-fault : goal.returns-in-Some-Cycle-clause-fault
returns-in-Some-Cycle-clause-fault c =
    answered-cycle c.args.draft.now c.from-limit.result c.as_slice.result.now c.as_slice-2.result.now c.in_ok-chain_fault.field-0 c.in-Some-Cycle.place c.as_slice-definitions.result.now c.index-definitions-place.result c.in_ok-fault-in-Some-Cycle.fault c.requires.draft c.requires.names
    (record { limit_is = c.from-limit.ensures; rows_are = c.as_slice.ensures ∙ c.in_ok-graph.ensures.rows; nested_are = c.as_slice-2.ensures ∙ c.in_ok-graph.ensures.nested })
    (c.in-Some-Cycle.is ∙ ap Some c.in-Some-Cycle.field-0-is) c.in_ok-chain_fault.ensures c.as_slice-definitions.ensures c.index-definitions-place.is c.in_ok-fault-in-Some-Cycle.ensures

pub returns-clause-fault : goal.returns-clause-fault
returns-clause-fault c =
    answered-deep c.args.draft.now c.from-limit.result c.as_slice.result.now c.as_slice-2.result.now c.in_ok-chain_fault.field-0 c.in-Some-TooDeep.place c.as_slice-definitions.result.now c.index-definitions-place-in-Some-TooDeep.result c.in_ok-fault-in-Some-TooDeep.fault c.requires.draft c.requires.names
    (record { limit_is = c.from-limit.ensures; rows_are = c.as_slice.ensures ∙ c.in_ok-graph.ensures.rows; nested_are = c.as_slice-2.ensures ∙ c.in_ok-graph.ensures.nested })
    (c.in-Some-TooDeep.is ∙ ap Some c.in-Some-TooDeep.field-0-is) c.in_ok-chain_fault.ensures c.as_slice-definitions.ensures c.index-definitions-place-in-Some-TooDeep.is c.in_ok-fault-in-Some-TooDeep.ensures

pub bounds-definitions-place : goal.bounds-definitions-place
bounds-definitions-place c =
    let inside = cycle-place c.args.draft.now c.from-limit.result c.as_slice.result.now c.as_slice-2.result.now c.in_ok-chain_fault.field-0 c.in-Some-Cycle.place
    (record { limit_is = c.from-limit.ensures; rows_are = c.as_slice.ensures ∙ c.in_ok-graph.ensures.rows; nested_are = c.as_slice-2.ensures ∙ c.in_ok-graph.ensures.nested })
    (c.in-Some-Cycle.is ∙ ap Some c.in-Some-Cycle.field-0-is) c.in_ok-chain_fault.ensures in
    let same = ap length c.as_slice-definitions.ensures in
    omega arith

pub bounds-definitions-place-in-Some-TooDeep : goal.bounds-definitions-place-in-Some-TooDeep
bounds-definitions-place-in-Some-TooDeep c =
    let inside = deep-place c.args.draft.now c.from-limit.result c.as_slice.result.now c.as_slice-2.result.now c.in_ok-chain_fault.field-0 c.in-Some-TooDeep.place
    (record { limit_is = c.from-limit.ensures; rows_are = c.as_slice.ensures ∙ c.in_ok-graph.ensures.rows; nested_are = c.as_slice-2.ensures ∙ c.in_ok-graph.ensures.nested })
    (c.in-Some-TooDeep.is ∙ ap Some c.in-Some-TooDeep.field-0-is) c.in_ok-chain_fault.ensures in
    let same = ap length c.as_slice-definitions.ensures in
    omega arith

pub chain_fault-requires-clause-few : goal.chain_fault-requires-clause-few
chain_fault-requires-clause-few c = few c.args.draft.now c.as_slice.result.now c.requires.draft (c.as_slice.ensures ∙ c.in_ok-graph.ensures.rows)

pub chain_fault-requires-clause-nested : goal.chain_fault-requires-clause-nested
chain_fault-requires-clause-nested c =
    as-many c.args.draft.now c.as_slice.result.now c.as_slice-2.result.now (c.as_slice.ensures ∙ c.in_ok-graph.ensures.rows) (c.as_slice-2.ensures ∙ c.in_ok-graph.ensures.nested)
