mod AlikeLemmas
mod CounterLemmas
mod ListLemmas
mod TableLemmas
