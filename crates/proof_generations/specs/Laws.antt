-- The laws as statements: of roots, handles and offers (Roots), and along paths (Falling).
pub mod Roots
pub mod Falling
