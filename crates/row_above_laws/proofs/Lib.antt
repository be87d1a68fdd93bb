mod Above
mod Bodies
mod Expected
mod Known
mod Laying
mod Motion
mod Parts
mod Quadtree
mod Within
pub mod FlightValueLawsLemmas
