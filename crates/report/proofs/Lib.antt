-- Laws and theorems that belong to no one function.
pub mod Reports
