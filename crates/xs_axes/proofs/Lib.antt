mod BackwardAxisLemmas
mod ForwardAxisLemmas
mod SubtreeLemmas
mod AxisLawLemmas
mod RangeLemmas
