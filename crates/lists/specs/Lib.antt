-- Parts of a list, lists made place by place, and the entries of a list.
pub mod Parts
pub mod Entries
