pub mod Primes
pub mod Resolution
pub mod Texts
