-- XML, whose elements are closed and whose texts are escaped, and a writer that holds it.
pub mod Xml
pub mod Page
