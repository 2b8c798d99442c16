mod ValueLemmas
mod RunLemmas
mod StayLemmas
mod PlaceLemmas
mod WholeLemmas
