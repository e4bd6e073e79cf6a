-- What to cite from above: the node of a slot (Stored), what an action does to the heap (Acting).
pub mod Stored
pub mod Acting
