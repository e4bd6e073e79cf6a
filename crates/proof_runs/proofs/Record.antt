-- What the steps of a machine add to its record, and that it may be told what they tell.
--
-- How many places a step adds (Adding); which node of a slot is the newest (Newest); that what a READ gives is in use (Reading). So what a step tells may be told (Fitting).
pub mod Adding
pub mod Newest
pub mod Reading
pub mod Fitting
