mod KnownLemmas
mod ReadLemmas
