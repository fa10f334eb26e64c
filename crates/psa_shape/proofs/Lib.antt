mod RowLemmas
mod ValueLemmas
mod AttributeLemmas
mod ContentLemmas
mod BoundLemmas
mod FaultLemmas
