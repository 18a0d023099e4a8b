-- What is known of a resource by its handle, and of a writer to which a text was written.
pub mod Shown
pub mod Sink
