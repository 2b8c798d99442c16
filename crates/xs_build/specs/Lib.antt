-- What a reader has to believe stands in Limits, Faults, Namespaces, Start, Nodes, LineContext, Rules, Document and Results. What
-- follows stands in DocumentTree, Grammar and DocumentLaws. steps says what the code mirrors.
pub mod Document
pub mod DocumentLaws
pub mod DocumentTree
pub mod Faults
pub mod Grammar
pub mod LineContext
pub mod Limits
pub mod Namespaces
pub mod Nodes
pub mod Results
pub mod Rules
pub mod Start
pub mod steps
