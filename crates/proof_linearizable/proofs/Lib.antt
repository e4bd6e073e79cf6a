-- The theorem: FactsOfRuns puts together what the layers below show of contents, and Legal draws the laws from it (proof_order, Views.Explained). `alone_it_acts`: AtRest
-- (who began has ended), Telling (a history with one operation more), SortedLast (its place comes last) and Alone. Nothing above cites more than the laws.
pub mod Telling
pub mod AtRest
pub mod SortedLast
pub mod Alone
pub mod FactsOfRuns
pub mod Legal
