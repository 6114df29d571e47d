mod Filing
mod Meeting
mod Offering
mod Placing
mod Standing
