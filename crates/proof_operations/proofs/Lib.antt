-- What to cite from above: `ids_apart` (Given), `numbers_stay` (Numbers; there too what it is to be reserved, by place: `reserves`, `reserved_at`,
-- `reserved_somewhere`), `privates_short` (Privates), `lists_have_room` (Rooms).
pub mod Given
pub mod Numbers
pub mod Entries
pub mod MostHeld
pub mod Building
pub mod Holding
pub mod Privates
pub mod Rooms
