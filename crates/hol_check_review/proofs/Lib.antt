mod TextLemmas
mod UsualLemmas
mod WrittenLemmas
