-- What the proof of a caller cites.
pub use Rattle.psa_bdd.proofs.ConnectiveLemmas.{result-stands}
