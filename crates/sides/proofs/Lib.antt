pub mod SideWords
