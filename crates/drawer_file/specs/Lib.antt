pub mod DrawerFile
pub mod Loaded
