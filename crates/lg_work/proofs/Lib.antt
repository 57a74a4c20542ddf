mod ChooseLemmas
mod FitsLemmas
mod RankLemmas
mod ReserveLemmas
mod SumsLemmas
mod TextLemmas
mod UseLemmas
