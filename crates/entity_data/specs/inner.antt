pub mod EntityEdges
