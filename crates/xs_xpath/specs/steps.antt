-- What the code mirrors: its tables, and scopes whose prefixes rise. No public contract cites these files.
pub mod Rising
