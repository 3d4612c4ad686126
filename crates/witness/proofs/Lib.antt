-- The runs, computed.
mod Computed
