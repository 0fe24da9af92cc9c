pub mod UnknownKinds
