mod OrderLemmas
mod IntervalLemmas
