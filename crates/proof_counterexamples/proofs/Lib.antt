-- How an order is refuted: `refused` and `refused_by` (Refuting) replay it in views (Views) until some call is told (Told) another reply than the recorded one.
-- Each wrong machine or order is computed in its law's own proof. Nothing above cites these.
pub mod Views
pub mod Told
pub mod Refuting
