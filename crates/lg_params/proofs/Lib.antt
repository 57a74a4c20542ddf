mod DateLemmas
mod KindLemmas
mod ListLemmas
mod ListReading
mod PlaceLemmas
mod QuoteLemmas
mod ReadingLemmas
mod TextLemmas
