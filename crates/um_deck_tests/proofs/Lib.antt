pub mod SomeColumn
