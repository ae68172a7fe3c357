pub mod MapItems
