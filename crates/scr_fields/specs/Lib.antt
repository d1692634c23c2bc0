pub mod Numbers
pub mod Words
pub mod FieldForms
pub mod KeyWords
pub mod Texts
