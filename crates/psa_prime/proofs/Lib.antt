pub mod ImplicantLemmas
pub mod DecompositionLemmas
pub mod ConjunctionLemmas
pub mod TerminalPrimeLemmas
pub mod OriginLemmas
pub mod SidePrimeSteps
pub mod PrimeSteps
