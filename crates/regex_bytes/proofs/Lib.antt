pub mod OfBytes
