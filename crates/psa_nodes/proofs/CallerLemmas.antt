-- What the proof of a caller cites: of ids, of growing tables, of what a call does.
pub use Rattle.psa_nodes.proofs.StandsLemmas.{same_kind-exact, inner-from, stands-below, stands-weaker, stands-terminal, stands-cases, stands-at, stands-split, stands-node, StandsAs, node_at-terminal, node_at-below, node_at-past, node_at-some, level-node, level-terminal, level-stands, first_literal-grows, first_literal-step, first_literal-bound}
pub use Rattle.psa_nodes.proofs.GrownLemmas.{grown-own, grown-then, length-kept, below-kept, stands-kept, node_at-kept, level-kept, reading-kept, truth-kept, has-kept, node_reading-kept}
pub use Rattle.psa_nodes.proofs.NodeAtLemmas.{At, at}
pub use Rattle.psa_nodes.proofs.TruthLemmas.{truth-agree, truth-terminal, fixed, fixed-past, IsBlind, blind-stands, high-side, low-side, branch-blind, choice-same}
pub use Rattle.psa_nodes.proofs.FamilyLemmas.{joined-own, joined-other, has-below, has-zero}
pub use Rattle.psa_nodes.proofs.CanonicalLemmas.{AreCanonical, canonical, only, same-back}
pub use Rattle.psa_nodes.proofs.EntryLemmas.{right-kept, right-has}
pub use Rattle.psa_nodes.proofs.MakesNodeLemmas.{same-path}
pub use Rattle.psa_nodes.proofs.ProgressLemmas.{key_level-kept, key_level-right, progress-own, progress-then, progress-lacks, progress-remember, progress-node, progress-wide, call-same, call-done, call-memory, call-error, call-then, call-wide, call-node, made-grown, some-inner}
pub use Rattle.psa_nodes.proofs.CofactorLemmas.{assigned-past, high-cofactor, low-cofactor}
pub use Rattle.psa_nodes.proofs.BoundedLemmas.{bounded-none, bounded-at, bounded-cons, bounded-made}
pub use Rattle.psa_nodes.proofs.MemberLemmas.{AreAbove, above-stands, above-head, stands-above}
pub use Rattle.psa_nodes.proofs.TailLemmas.{tail-own, own-tails, IsSideOf, tails-of-side, tails-in, side-call, exit-call, last-call}
pub use Rattle.psa_nodes.proofs.SizeLemmas.{joined-member, has-one}
pub use Rattle.psa_nodes.proofs.ResultLemmas.{is_result, remembered-result, result-kept}
