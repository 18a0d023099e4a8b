-- For crates above: none.
mod Ascending
mod Jobs
mod Looking
mod Nothing
mod PlainPrinted
mod Printed
mod RoomLemmas
mod Values
