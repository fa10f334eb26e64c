mod TableLemmas
mod Forms
